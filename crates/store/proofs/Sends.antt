-- What a store is made of may go to another thread, or be shared.
use denote.RattleType.{RattleType}
use denote.Param.Send.{IsSend, IsSync, sendable, recorded_sync, struct_sync}
use denote.Ref.{NamedLft}
use denote.Struct.Declared.{shape}
use denote.Struct.Field.{u8-field}
use Rattle.std.proofs.Crossing.{crosses}
use Rattle.std.specs.contracts.sync.Mutex as mutex
use Rattle.disk_model.specs.declared.disk.Disk as disks
use Rattle.records.specs.contracts.pending.Pending.{the_row}
use Rattle.boosted.specs.declared.Boosted as boosted
use Rattle.catalog.specs.declared.parts.Parts as collections
use Rattle.catalog.specs.declared.part.Part as part
use Rattle.catalog.specs.declared.names.Named as named
use Rattle.catalog.specs.declared.shelf.Shelved as shelved
use Rattle.catalog.specs.contracts.catalog.Catalog as catalog
use Rattle.catalog.specs.contracts.catalog.CatalogParts.TheImpl as catalog_parts
use Rattle.catalog.specs.contracts.catalog.CatalogBoosted.TheImpl as catalog_boosted
use Rattle.catalog.specs.contracts.part.NamedHolding as holding
use Rattle.catalog.specs.contracts.part.NamedHoldingPart.TheImpl as holding_part
use Rattle.catalog.specs.contracts.names.Names as names
use Rattle.catalog.specs.contracts.names.NamesNamed.TheImpl as names_named
use Rattle.catalog.specs.contracts.shelf.CatalogShelf as quarter
use Rattle.catalog.specs.contracts.shelf.CatalogShelfShelved.TheImpl as quarter_shelved
use Rattle.catalog.specs.contracts.shelf.CatalogShelfBoosted.TheImpl as quarter_boosted
use Rattle.catalog.proofs.part.NamedHolding.TheSendSync as holdings
use Rattle.catalog.proofs.names.Names.TheSendSync as label_lists
use Rattle.catalog.proofs.shelf.CatalogShelf.TheSendSync as quarters
use Rattle.catalog.proofs.four.Four.TheSendSync as fours
use Rattle.abstract_locks.proofs.table.NeedTable.TheSendSync as tables
use Rattle.steps.proofs.shelf.Shelf.TheSendSync as shelves
use Rattle.steps.proofs.transaction_table.TransactionTable.TheSendSync as transactions
use Rattle.images.proofs.gathering.Gathering.TheSendSync as gatherings
use Rattle.checkpoint.proofs.keeper.Keeper.TheSendSync as keepers
use Rattle.group_commit.proofs.accord.Accord.TheSendSync as accords
use Rattle.group_commit.proofs.accord.Near.TheSendSync as nears
use Rattle.group_commit.proofs.accord.Far.TheSendSync as fars
use Rattle.group_commit.proofs.handoff.Handoff.TheSendSync as handoffs
use Rattle.group_commit.proofs.handoff.Sender.TheSendSync as senders
use Rattle.group_commit.proofs.handoff.Receiver.TheSendSync as receivers
use Rattle.group_commit.proofs.line.Line.TheSendSync as lines
use Rattle.group_commit.proofs.line.BookSeat.TheSendSync as seats
use Rattle.group_commit.proofs.line.ClientSeat.TheSendSync as clients
use Rattle.group_commit.proofs.mark.Mark.TheSendSync as marks
use Rattle.group_commit.proofs.mark.KeeperSeat.TheSendSync as kept
use Rattle.group_commit.proofs.mark.Watcher.TheSendSync as watchers
use Rattle.group_commit.proofs.numbers.Numbers.TheSendSync as numbers
use Rattle.group_commit.proofs.numbers.Drawer.TheSendSync as drawers
use Rattle.group_commit.proofs.numbers.DrawerMaker.TheSendSync as makers
use Rattle.group_commit.proofs.twin.Twin.TheSendSync as twins
use Rattle.group_commit.proofs.twin.TwinNear.TheSendSync as twin_nears
use Rattle.group_commit.proofs.twin.TwinFar.TheSendSync as twin_fars
use Rattle.desks.proofs.budget.Budget.TheSendSync as budgets
use Rattle.desks.proofs.shelf_desk.ShelfDesk.TheSendSync as shelf_desks
use Rattle.desks.proofs.signal.Signal.TheSendSync as signals
use Rattle.desks.proofs.queue.WaitQueue.TheSendSync as queues
use Rattle.clients.proofs.awaiting.Awaiting.TheSendSync as awaitings
use Rattle.clients.specs.contracts.client.Client as client
use Rattle.txn.specs.contracts.journal.Journal as journal
use Rattle.desks.specs.declared.naming.Naming as namings
use Rattle.desks.specs.contracts.desk.Desk as desk
use Rattle.desks.specs.contracts.lock.Lock as lock
use Rattle.desks.specs.contracts.shelves.Shelves as four_shelves
use Rattle.store.specs.contracts.gatherer.Gatherer as gatherer
use Rattle.store.specs.contracts.vault.Vault as vault
use Rattle.desks.specs.contracts.shared.Shared as shared
use Rattle.store.specs.contracts.stopping.Stopping as stopping
use Rattle.store.specs.contracts.store.Store as store
use Rattle.store.proofs.gatherer.Gatherer.TheSendSync as gatherers
use Rattle.store.proofs.stopping.Stopping.TheSendSync as stoppings
use Rattle.store.proofs.vault.Vault.TheSendSync as vaults

pub pending_sends : IsSend the_row
pending_sends = search (sendable, crosses) depth 60

pub ruleset parts = (
  sendable,
  crosses,
  pending_sends,
  tables.the_send,
  shelves.the_send,
  fours.the_send,
  fours.the_sync,
  transactions.the_send,
  gatherings.the_send,
  keepers.the_send,
  accords.the_sync,
  nears.the_send,
  fars.the_send,
  handoffs.the_sync,
  senders.the_send,
  receivers.the_send,
  lines.the_sync,
  seats.the_send,
  clients.the_send,
  marks.the_sync,
  kept.the_send,
  watchers.the_send,
  numbers.the_sync,
  drawers.the_send,
  makers.the_send,
  twins.the_sync,
  twin_nears.the_send,
  twin_fars.the_send,
  budgets.the_send,
  shelf_desks.the_send,
  signals.the_sync,
  queues.the_sync,
  awaitings.the_send,
)

-- What clients share of a store may be shared, and a client may be sent, where the names and the
-- shelves may be sent. B: the collections, P: a copy of one of them, N: their names, T: a quarter
-- of them.
module _ (J : RattleType) (n : namings.Ghosts J.Denot) (J_send : IsSend J) (J_sync : IsSync J)
    (B P N T : RattleType) (b : collections.Ghosts B.Denot P.Denot N.Denot T.Denot)
    (c : boosted.Ghosts B.Denot u8-field.Value) (p : part.Ghosts P.Denot)
    (m : named.Ghosts N.Denot) (s : shelved.Ghosts T.Denot P.Denot)
    (t : boosted.Ghosts T.Denot u8-field.Value) (N_send : IsSend N) (T_send : IsSend T) where
  pub shelves_sync : IsSync (four_shelves.the_field J B P N T n b c p m s t).row
  shelves_sync = struct_sync (shape (four_shelves.the_type J B P N T n b c p m s t))
      (search parts depth 80 fits 100000)

  journal_send : IsSend (journal.the_row B P N T b c p m s t)
  journal_send = search parts depth 80 fits 100000

  desk_send : IsSend (desk.the_row J B P N T n b c p m s t)
  desk_send = search (
    sendable,
    crosses,
    journal_send,
    twin_nears.the_send,
    seats.the_send,
    senders.the_send,
    nears.the_send,
    makers.the_send,
    watchers.the_send,
  ) depth 80 fits 100000

  pub desk_sync : IsSync (lock.the_field (desk.the_row J B P N T n b c p m s t)).row
  desk_sync = struct_sync (shape (lock.the_type (desk.the_row J B P N T n b c p m s t)))
      (search (parts, desk_send) depth 80 fits 100000)

  pub shared_sync : IsSync (shared.the_field J n).row
  shared_sync = struct_sync (shape (shared.the_type J n)) (search parts depth 80 fits 100000)

  pub client_send : (ν : NamedLft) → IsSend (client.the_row ν J B P N T n b c p m s t)
  client_send ν = search (parts, shelves_sync, desk_sync, shared_sync) depth 80 fits 100000

-- A store may be shared where its disk, and what is gathered of it, may be sent too.
module _ (D J : RattleType) (n : namings.Ghosts J.Denot) (d : disks.Ghosts D.Denot)
    (D_send : IsSend D) (J_send : IsSend J) (J_sync : IsSync J)
    (B P N T : RattleType) (b : collections.Ghosts B.Denot P.Denot N.Denot T.Denot)
    (c : boosted.Ghosts B.Denot u8-field.Value) (p : part.Ghosts P.Denot)
    (m : named.Ghosts N.Denot) (s : shelved.Ghosts T.Denot P.Denot)
    (t : boosted.Ghosts T.Denot u8-field.Value) (P_send : IsSend P) (N_send : IsSend N)
    (T_send : IsSend T) where
  vault_sync : IsSync (mutex.the_row (vault.the_row D J d n))
  vault_sync = search (parts, vaults.the_send) depth 80 fits 100000

  gatherer_sync : IsSync (mutex.the_row (gatherer.the_row J B P N T n b c p m s t))
  gatherer_sync = search (parts, gatherers.the_send) depth 80 fits 100000

  stopping_sync : IsSync (mutex.the_row (stopping.the_row J n))
  stopping_sync = search (parts, stoppings.the_send) depth 80 fits 100000

  pub any_store_sync : IsSync (store.the_row D J B P N T n b c p m s t d)
  any_store_sync = recorded_sync (store.the_field D J B P N T n b c p m s t d).row _ _
      (store.the_type D J B P N T n b c p m s t d).to_one
      (struct_sync (shape (store.the_type D J B P N T n b c p m s t d)) (
        shelves_sync J n J_send J_sync B P N T b c p m s t N_send T_send,
        (
          desk_sync J n J_send J_sync B P N T b c p m s t N_send T_send,
          (
            vault_sync,
            (
              gatherer_sync,
              (
                stopping_sync,
                (shared_sync J n J_send J_sync B P N T b c p m s t N_send T_send, tt),
              ),
            ),
          ),
        ),
      ))

-- So may one of a catalog.
module _ (D J : RattleType) (n : namings.Ghosts J.Denot) (d : disks.Ghosts D.Denot)
    (D_send : IsSend D) (J_send : IsSend J) (J_sync : IsSync J) where
  pub store_sync : IsSync (store.the_row D J catalog.the_row holding.the_row names.the_row
      quarter.the_row n catalog_parts.ghosts catalog_boosted.ghosts holding_part.ghosts
      names_named.ghosts quarter_shelved.ghosts quarter_boosted.ghosts d)
  store_sync = any_store_sync D J n d D_send J_send J_sync catalog.the_row holding.the_row
      names.the_row quarter.the_row catalog_parts.ghosts catalog_boosted.ghosts
      holding_part.ghosts names_named.ghosts quarter_shelved.ghosts quarter_boosted.ghosts
      holdings.the_send label_lists.the_send quarters.the_send
