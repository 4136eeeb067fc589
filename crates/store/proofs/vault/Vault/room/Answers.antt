use Rattle.store.proofs.vault.Vault.room.Goals as goal

pub returns : goal.returns
returns g c = record {
  keeper = c.self.inside.keeper;
  receiver = c.self.inside.receiver;
  seat = c.self.inside.mark;
  near = c.self.inside.near;
  vault = c.self.invariant.0;
  room_of = c.of.ensures;
}
