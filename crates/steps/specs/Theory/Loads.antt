-- Reading an image: what is tested of each live entry, and what state it makes.
use Rattle.std.specs.Prelude.{◌≡◌, ℕ, List, [], ◌∷◌, ◌++◌, map}
use Rattle.std.specs.List.{AllByRecursion}
use Rattle.calls.specs.Transactions.{Leads}
use Rattle.boosted.specs.Runs.{Ready}
use Rattle.steps.specs.Theory.Rules.{Rules, Has, Lacks}
use Rattle.steps.specs.Theory.Journal.{Entry, Asked, Deferred, event}
use Rattle.steps.specs.Theory.Machine.{State, IsClear, IsSound, left_of}
use Rattle.steps.specs.Theory.Images.{image_of}

abbrev pub Fits : {S E M N : Type 0} → Rules S E M N → State S E N → Entry E → Type 0
Fits rules s (Asked x) = rules.asked x ×
    AllByRecursion (λ d. Lacks (left_of rules (rules.owner x) s.entries) d) (rules.leaves x)
Fits rules s (Deferred d) = rules.deferred d × Ready rules.does s.now d

-- A live entry of an image is read. The content has what it did already.
pub record LoadRow {S E M N : Type 0} (rules : Rules S E M N) (s : State S E N) (e : Entry E)
    (t : State S E N) : Type 0 where
  pub live : Has s.live (rules.owner (event e))
  pub clear : IsClear rules s.needs (event e)
  pub fits : Fits rules s e
  pub is : t ≡ record {
    now = s.now;
    entries = s.entries ++ e ∷ [];
    live = s.live;
    falling = s.falling;
    needs = s.needs ++ rules.need (event e) ∷ [];
  }

-- what an image makes
abbrev pub loaded : {S E M N : Type 0} → Rules S E M N → S → List ℕ → List (Entry E) → State S E N
loaded rules now live es = record {
  now = now;
  entries = es;
  live = live;
  falling = [];
  needs = map (λ e. rules.need (event e)) es;
}

abbrev pub Loads : {S E M N : Type 0} → Rules S E M N → List (Entry E) → State S E N → State S E N →
    Type 0
Loads rules es s t = Leads (LoadRow rules) es s t

-- An image that is read without a fault makes a sound state.
abbrev pub LoadsSound : {S E M N : Type 0} → Rules S E M N → Type 0
LoadsSound {S} {E} {M} {N} rules =
    (now : S) (live : List ℕ) (es : List (Entry E)) (t : State S E N) →
    Loads rules es (loaded rules now live []) t →
    (t ≡ loaded rules now live es) × IsSound rules t

-- The image of a sound state is read without a fault.
abbrev pub ImageLoads : {S E M N : Type 0} → Rules S E M N → Type 0
ImageLoads {S} {E} {M} {N} rules =
    (s : State S E N) → IsSound rules s →
    Loads rules (image_of rules s).entries (loaded rules s.now s.live []) (image_of rules s)
