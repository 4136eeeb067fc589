use Rattle.calls.specs.Formats.{widest}
use Rattle.std.proofs.Common.{ℕ, ◌<◌, length, sym, subst}
use Rattle.std.specs.List.{AllByRecursion}
use Rattle.std.proofs.lemmas.Result.{IfOk-weaker}
use Rattle.calls.specs.Transactions.{Entry}
use Rattle.undo_log.specs.Logs.{Lives}
use Rattle.boosted.proofs.Each.{each_both}
use Rattle.records.specs.Records.{IsNumber}
use Rattle.records.specs.Short.{AreShort}
use Rattle.steps.specs.Machines.{IsAskedEntry}
use Rattle.steps.proofs.BookLaws.{BookLaws, book_laws}
use Rattle.steps.proofs.ShortValues.{widest_entry}
use Rattle.steps.proofs.Steps as steps
use Rattle.records.specs.Drafts.{ArePacked}
use Rattle.records.specs.Packings.{joined, AreWhole}
use Rattle.images.specs.Images.{TellsState, TellsGathered, TellsTransactions, IsPackedImage}
use Rattle.images.proofs.ImageRecords.{packed_of, tells_state, state_some, writes_as}
use Rattle.recovery.proofs.freezing.image_blocks.Given.{Over}
use Rattle.recovery.proofs.freezing.image_blocks.Goals as goal

-- the laws of the collections
laws : (g : Over) → BookLaws g.B.Boosted.meaning g.B.Parts.making
    (λ f s. AreShort f (g.B.Parts.collections s))
laws g = book_laws g.met.B.Boosted.laws g.met.B.Parts.laws g.met.B.Coded.told

abbrev IsGood : ℕ × Entry → Type 0
IsGood e = IsNumber e.0 × IsAskedEntry widest e.1

pub live_records-requires-clause-asked : goal.live_records-requires-clause-asked
live_records-requires-clause-asked g c =
    let s = c.args.machine.now in
    let up = c.upheld.ensures in
    subst (AllByRecursion IsGood) (sym c.live.ensures.entries)
    (each_both (λ e. Lives s.live e.0) (λ e. IsAskedEntry s.format e.1) IsGood s.entries
    (steps.alive g.B.Boosted.meaning g.B.Parts.making (laws g).rules s up.holds) up.asked
    (λ e lives asked. (up.numbers e.0 lives, widest_entry s.format e.1 asked)))

pub returns-clause-image : goal.returns-clause-image
returns-clause-image g c =
    let s = c.args.machine.now in
    let collections = g.B.Parts.collections in
    let next = c.args.next in
    let live = c.in_ok-live.live.items in
    let told = subst (λ es. TellsTransactions s.live es live) c.live.ensures.entries
    (subst (λ l. TellsTransactions l c.live.result.now.entries live) c.live.ensures.live
    c.in_ok-live.ensures.told) in
    let writes = writes_as
    (TellsGathered s.format next s.wear (collections s.now) c.deref.result.now)
    (TellsState collections next s)
    (joined c.new-packer.result) (joined c.push_image.new.packer) c.in_ok-push_image.ensures.told
    (λ rs tells. tells_state collections next s live told rs
    (subst (λ l. TellsGathered s.format next s.wear (collections s.now) l rs) c.deref.ensures.value
    tells)) in
    IfOk-weaker c.finish.result
    (λ blocks. AreWhole blocks.items c.push_image.new.packer × ArePacked c.push_image.new.packer ×
    AllByRecursion (λ l. 0 < length l) c.push_image.new.packer)
    (λ blocks. IsPackedImage collections next s blocks.items)
    (λ blocks is. packed_of (TellsState collections next s) (state_some collections next s)
    c.push_image.new.packer c.new-packer.result writes blocks.items c.new-packer.ensures is.0 is.1
    is.2) c.finish.ensures.whole
