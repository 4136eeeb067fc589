-- Bounds of more and more holds.
use Rattle.std.proofs.Common.{◌≡◌, ◌∙◌, ℕ, ◌+◌, ◌<◌, ◌≤◌, List, [], ◌∷◌, ◌++◌, length, get_or, take}
use Rattle.std.proofs.Common.{ap, arith}
use Rattle.std.proofs.lemmas.List.{take_more, append-nil}
use Rattle.std.proofs.lemmas.List.Concat.{flat_map-append}
use Rattle.calls.specs.declared.need.Mode.{Mode}
use Rattle.calls.specs.Modes.{Has}
use Rattle.abstract_locks.specs.declared.bounds.Bounds.{Bounds}
use Rattle.abstract_locks.specs.declared.table.Hold.{Hold}
use Rattle.abstract_locks.specs.Bounds.{Covers}
use Rattle.abstract_locks.specs.Segments.{all_holds}

-- The wide bounds leave more room in each respect.
pub record IsWider (wide narrow : Bounds) : Type 0 where
  pub low : wide.low ≤ narrow.low
  pub high : narrow.high ≤ wide.high
  pub widest : narrow.widest ≤ wide.widest
  pub first : wide.first_owner ≤ narrow.first_owner
  pub last : narrow.last_owner ≤ wide.last_owner
  pub modes : (m : Mode) → Has narrow.modes m → Has wide.modes m

pub wider_covers : (wide narrow : Bounds) → IsWider wide narrow → Covers wide narrow
wider_covers wide narrow wider h within =
    let low = within.low in
    let high = within.high in
    let span = within.span in
    let first = within.first in
    let last = within.last in
    let low_wider = wider.low in
    let high_wider = wider.high in
    let span_wider = wider.widest in
    let first_wider = wider.first in
    let last_wider = wider.last in
    record {
      low = omega arith;
      high = omega arith;
      span = omega arith;
      first = omega arith;
      last = omega arith;
      mode = wider.modes h.need.mode within.mode;
    }

-- the holds of one segment more
pub one_segment_more : (segments : List (List Hold)) (i : ℕ) (d : List Hold) →
    i < length segments →
    all_holds (take (i + 1) segments) ≡ all_holds (take i segments) ++ get_or segments i d
one_segment_more segments i d lt =
    ap all_holds (take_more segments i d lt)
    ∙ flat_map-append (λ s. s) (take i segments) (get_or segments i d ∷ [])
    ∙ ap (λ l. all_holds (take i segments) ++ l) (append-nil (get_or segments i d))
