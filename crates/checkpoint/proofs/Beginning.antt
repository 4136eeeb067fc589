-- What the beginning of an image answers, where the image is not the one that is awaited.
use Rattle.std.proofs.Common.{◌≡◌, ℕ, false, refl, Err}
use Rattle.calls.specs.declared.refusal.Refusal.{Refusal}
use Rattle.records.specs.declared.block.Image.{Image}
use Rattle.checkpoint.specs.ImageAnswers.{AskAnswers, BeginAnswers}
use Rattle.checkpoint.specs.Keepers.{KeeperState}

-- an image that is not the one awaited is refused
pub unasked : {D : Type 0} (k : KeeperState D) (image : Image) (behind : ℕ) (e : Refusal) →
    k.failed ≡ false → AskAnswers k.stage image (Err e) → BeginAnswers k image behind k (Err e)
unasked k image behind Refusal.Unfinished fine asked = (fine, asked, refl)
unasked k image behind Refusal.Imaging fine asked = (fine, asked, refl)
unasked k image behind Refusal.BadArg fine asked = (fine, asked, refl)
unasked k image behind e fine asked = absurd asked
