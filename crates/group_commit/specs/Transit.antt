-- The rule of the hand-off: what was sent is what was received, followed by what is in transit. One
-- end at most may send, and it knows what was sent. The same for receiving. Both know what was
-- frozen, as it was noted.
use Rattle.std.specs.Prelude.{◌≡◌, ℕ, true, false, List, []}
use mathlib.Core.Option.{some}
use lib.ListN.{get_elem?}
use Rattle.crossbeam_queue.specs.Passes.{Pass}
use Rattle.atomic_table.specs.Seated.{TableId}
use Rattle.records.specs.declared.block.Block.{Block}
use Rattle.images.specs.Gathers.{GatherState}
use Rattle.group_commit.specs.declared.handoff.Log.{Log}
use Rattle.group_commit.specs.Orders.{AreInTransit}

-- what an end knows
abbrev pub known : Pass Block Log → Log
known p = p.me.0.client

abbrev pub sender : List Block → List GatherState → Log
sender sent noted = record {
  sends = true;
  receives = false;
  sent = sent;
  received = [];
  noted = noted;
  heard = [];
}

abbrev pub receiver : List Block → List GatherState → Log
receiver received heard = record {
  sends = false;
  receives = true;
  sent = [];
  received = received;
  noted = [];
  heard = heard;
}

-- the end that may send as the one, and receive as the other
abbrev pub united : Log → Log → Log
united s r = record {
  sends = true;
  receives = true;
  sent = s.sent;
  received = r.received;
  noted = s.noted;
  heard = r.heard;
}

abbrev pub nobody : Log
nobody = record {
  sends = false;
  receives = false;
  sent = [];
  received = [];
  noted = [];
  heard = [];
}

-- the pass is of this table, holds no slot, and knows this
abbrev pub IsEnd : TableId → Log → Pass Block Log → Type 0
IsEnd table v p = (p.table_id ≡ table) × (p.me.1 ≡ []) × (known p ≡ v)

abbrev pub IsSender : TableId → Pass Block Log → Type 0
IsSender table p = IsEnd table (sender (known p).sent (known p).noted) p

abbrev pub IsReceiver : TableId → Pass Block Log → Type 0
IsReceiver table p = IsEnd table (receiver (known p).received (known p).heard) p

-- an end that may send is the writer, and knows what was sent and noted; one that may receive is
-- the reader, and knows what was received and noted
pub record Fits (writer reader : ℕ) (sent received : List Block) (noted : List GatherState)
    (seat : ℕ) (v : Log) : Type 0 where
  pub sends : v.sends ≡ true → (seat ≡ writer) × (v.sent ≡ sent) × (v.noted ≡ noted)
  pub receives : v.receives ≡ true → (seat ≡ reader) × (v.received ≡ received) × (v.heard ≡ noted)

pub record Ordered (transit : List Block) (views : List Log) : Type 0 where
  pub writer : ℕ
  pub reader : ℕ
  pub sent : List Block
  pub received : List Block
  pub noted : List GatherState
  pub order : AreInTransit sent received transit
  pub fits : (seat : ℕ) (v : Log) → get_elem? views seat ≡ some v →
      Fits writer reader sent received noted seat v
