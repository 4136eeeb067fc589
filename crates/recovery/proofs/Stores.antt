-- Bytes as a store: they hold one list of blocks, and stand for one content.
use Rattle.std.proofs.Common.{◌≡◌, ℕ, List, map, None, sym, ap, subst, ◌∙◌}
use Rattle.calls.specs.Contents.{Collection}
use Rattle.gate_block.specs.declared.area.Area.{Area}
use Rattle.gate_block.specs.Area.{size_of}
use Rattle.gate_block.specs.Row.{IsRow, part}
use Rattle.gate_block.specs.Layout.{area_in_use}
use Rattle.gate_block.proofs.Unique.{row_unique}
use Rattle.records.specs.declared.record.Record.{Record}
use Rattle.records.specs.Records.{spelling}
use Rattle.records.specs.Acts.{acts_of}
use Rattle.txn.specs.Books.{BookState}
use Rattle.replay.specs.Journals.{Holds, StandsFor, records_in}
use Rattle.replay.specs.Reading.{IsSound}
use Rattle.replay.proofs.Grammar.{same_blocks}
use Rattle.replay.proofs.OneFormat.{accepted_holds}
use Rattle.replay.proofs.Parts.{IsParts}
use Rattle.replay.proofs.Contents.{parts, content, stands_for, only_content}
use Rattle.recovery.specs.Openings.{IsOpened}
use Rattle.recovery.proofs.OpenLemmas.{one_size}

-- bytes hold one list of blocks at most
pub one_held : (bytes : List ℕ) (bs cs : List (List Record)) → Holds bytes bs → Holds bytes cs →
    bs ≡ cs
one_held bytes bs cs b c =
    let size : c.size ≡ b.size = one_size c.version b.version c.size b.size bytes c.header
    b.header in
    let row : IsRow (map spelling cs) (area_in_use b.size bytes) =
    subst (λ n. IsRow (map spelling cs) (area_in_use n bytes)) size c.row in
    same_blocks None bs cs b.spelt c.spelt
    (row_unique (map spelling bs) (map spelling cs) (area_in_use b.size bytes) b.row row)

-- Sound bytes stand for one content.
pub stands_for_one : (bytes : List ℕ) → IsSound bytes → (c : List Collection) × StandsFor bytes c ×
    ((other : List Collection) → StandsFor bytes other → c ≡ other)
stands_for_one bytes sound =
    let rs = records_in sound.blocks in
    let p : IsParts rs sound.end = parts sound.holds.version rs sound.next sound.end sound.count
    sound.accepted in
    let one : (other : List Collection) → StandsFor bytes other →
    content rs sound.end p p.journal sound.end p.repeats ≡ other =
    λ other stands.
    let same = ap records_in (one_held bytes sound.blocks stands.blocks sound.holds stands.holds) in
    only_content rs sound.end p p.journal sound.end p.repeats bytes other stands
    (ap acts_of (sym same ∙ p.is)) (sym p.is ∙ same ∙ stands.split) in (
      content rs sound.end p p.journal sound.end p.repeats,
      stands_for rs sound.end p p.journal sound.end p.repeats bytes sound.blocks sound.holds p.is,
      one,
    )

-- What is opened is sound.
pub opened_sound : (old new : List ℕ) (book : BookState (List Collection)) (area : Area) →
    IsOpened old book area new → IsSound old
opened_sound old new book area opened = record {
  blocks = opened.blocks;
  holds = accepted_holds opened.version (size_of area) old opened.blocks opened.next opened.state
      opened.count opened.header
      (subst (λ b. IsRow (map spelling opened.blocks) (part b (size_of area) old)) opened.picks
      opened.is_read.row_is) opened.is_read.good opened.is_read.accepted;
  good = opened.is_read.good;
  next = opened.next;
  end = opened.state;
  count = opened.count;
  accepted = opened.is_read.accepted;
}
