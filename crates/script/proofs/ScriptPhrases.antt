-- What a text asks for is told by its first words.
use Rattle.std.proofs.Common.{◌≡◌, ◌≢◌, ℕ, ◌+◌, ◌*◌, ◌<◌, ◌^◌, List, ◌∷◌, ◌++◌, get_or, All}
use Rattle.std.proofs.Common.{ℤ, sym, subst, ◌∙◌, ap, arith, codes, Option, Some, None, Result, Ok}
use Rattle.std.proofs.Common.{Err, Bool, false}
use Rattle.std.specs.Prelude.{IfOk, MatchOption, IsTrue, ◌↔◌}
use Rattle.std.specs.Int.{w64}
use Rattle.std.specs.Int.RustNames.{FitsSigned}
use Rattle.std.proofs.lemmas.Bool.{true≢false}
use Rattle.std.proofs.lemmas.List.{append_cancel_left}
use Rattle.calls.specs.declared.call.Call.{Call}
use Rattle.calls.specs.declared.kind.Kind.{Kind}
use Rattle.script.specs.declared.action.Operation.{Operation}
use Rattle.script.specs.declared.action.Request.{Request}
use Rattle.script.specs.declared.action.Action.{Action}
use Rattle.calls.specs.Contents.{kind_text}
use Rattle.calls.proofs.KindLaws.{kind_whole}
use Rattle.script.specs.ScriptTexts.{IsWord, IsClient, CanBeDone, operation_text, CanBeDeferred}
use Rattle.script.specs.ScriptTexts.{later_text}
use Rattle.script.specs.ScriptTexts.{request_text, IsRequestOf, IsMakeOf, IsCallOf, IsLaterOf}
use Rattle.script.specs.ScriptTexts.{IsClientLine, IsLineOf}
use Rattle.std.specs.Fmt.{decimal, signed_decimal}
use Rattle.script.proofs.ScriptWords.{not_whole, decimal_whole, same_split}

-- ---- calls

pub no_call_without_space : (text : List ℕ) (r : Request) → All (λ b. b ≢ 32) text →
    IsCallOf r text → ⊥
no_call_without_space text (Request.Call name o) whole is =
    not_whole 32 text name (operation_text o) is.2 whole
no_call_without_space text r whole is = is

pub name_is_front : (text front back : List ℕ) (r : Request) → text ≡ front ++ 32 ∷ back →
    All (λ b. b ≢ 32) front → IsCallOf r text → IsWord front
name_is_front text front back (Request.Call name o) e first is =
    let parts = same_split 32 name (operation_text o) front back (sym is.2 ∙ e) is.0.whole first in
    subst IsWord parts.0 is.0
name_is_front text front back r e first is = absurd is

pub call_is_back : (text front back : List ℕ) (r : Request) → text ≡ front ++ 32 ∷ back →
    All (λ b. b ≢ 32) front → ((o : Operation) → CanBeDone o → back ≡ operation_text o → ⊥) →
    IsCallOf r text → ⊥
call_is_back text front back (Request.Call name o) e first none is =
    let parts = same_split 32 name (operation_text o) front back (sym is.2 ∙ e) is.0.whole first in
    none o is.1 (sym parts.1)
call_is_back text front back r e first none is = is

-- ---- calls that are deferred

-- The first letter of a call that is deferred, as a number: a bump and a fill have not the same.
abbrev initial : List ℕ → ℕ
initial t = get_or t 0 0

-- behind the word bump stands a number, and behind the word fill
bump_is_number : (text rest : List ℕ) (c : Call) → text ≡ codes "bump " ++ rest →
    ((n : ℤ) → FitsSigned w64 n → rest ≡ signed_decimal n → ⊥) → CanBeDeferred c →
    text ≡ later_text c → ⊥
bump_is_number text rest (Call.Bump n) e none can is =
    none n can (append_cancel_left (codes "bump ") rest (signed_decimal n) (sym e ∙ is))
bump_is_number text rest (Call.Fill n) e none can is =
    let other = ap initial (sym e ∙ is) in absurd (omega arith)
bump_is_number text rest c e none can is = can

fill_is_number : (text rest : List ℕ) (c : Call) → text ≡ codes "fill " ++ rest →
    ((n : ℕ) → n < 2 ^ 64 → rest ≡ decimal n → ⊥) → CanBeDeferred c → text ≡ later_text c → ⊥
fill_is_number text rest (Call.Bump n) e none can is =
    let other = ap initial (sym e ∙ is) in absurd (omega arith)
fill_is_number text rest (Call.Fill n) e none can is =
    none n can (append_cancel_left (codes "fill ") rest (decimal n) (sym e ∙ is))
fill_is_number text rest c e none can is = can

-- what is found of the number is found of the whole text
pub bump_gives : (found : Option Call) (text rest : List ℕ) → text ≡ codes "bump " ++ rest →
    MatchOption found ((n : ℤ) → FitsSigned w64 n → rest ≡ signed_decimal n → ⊥)
    (λ c. CanBeDeferred c × (later_text c ≡ codes "bump " ++ rest)) →
    MatchOption found ((c : Call) → CanBeDeferred c → text ≡ later_text c → ⊥)
    (λ c. CanBeDeferred c × (text ≡ later_text c))
bump_gives None text rest e none = λ c. bump_is_number text rest c e none
bump_gives (Some c) text rest e is = (is.0, e ∙ sym is.1)

pub fill_gives : (found : Option Call) (text rest : List ℕ) → text ≡ codes "fill " ++ rest →
    MatchOption found ((n : ℕ) → n < 2 ^ 64 → rest ≡ decimal n → ⊥)
    (λ c. CanBeDeferred c × (later_text c ≡ codes "fill " ++ rest)) →
    MatchOption found ((c : Call) → CanBeDeferred c → text ≡ later_text c → ⊥)
    (λ c. CanBeDeferred c × (text ≡ later_text c))
fill_gives None text rest e none = λ c. fill_is_number text rest c e none
fill_gives (Some c) text rest e is = (is.0, e ∙ sym is.1)

pub no_later_without_space : (text : List ℕ) (r : Request) → All (λ b. b ≢ 32) text →
    IsLaterOf r text → ⊥
no_later_without_space text (Request.Later name c) whole is =
    not_whole 32 text name (later_text c) is.2 whole
no_later_without_space text r whole is = is

pub later_name_is_front : (text front back : List ℕ) (r : Request) → text ≡ front ++ 32 ∷ back →
    All (λ b. b ≢ 32) front → IsLaterOf r text → IsWord front
later_name_is_front text front back (Request.Later name c) e first is =
    let parts = same_split 32 name (later_text c) front back (sym is.2 ∙ e) is.0.whole first in
    subst IsWord parts.0 is.0
later_name_is_front text front back r e first is = absurd is

pub later_is_back : (text front back : List ℕ) (r : Request) → text ≡ front ++ 32 ∷ back →
    All (λ b. b ≢ 32) front → ((c : Call) → CanBeDeferred c → back ≡ later_text c → ⊥) →
    IsLaterOf r text → ⊥
later_is_back text front back (Request.Later name c) e first none is =
    let parts = same_split 32 name (later_text c) front back (sym is.2 ∙ e) is.0.whole first in
    none c is.1 (sym parts.1)
later_is_back text front back r e first none is = is

-- ---- makings

pub no_make_without_space : (text : List ℕ) (r : Request) → All (λ b. b ≢ 32) text →
    IsMakeOf r text → ⊥
no_make_without_space text (Request.Make kind name) whole is =
    not_whole 32 text (kind_text kind) name is.1 whole
no_make_without_space text r whole is = is

pub kind_is_front : (text front back : List ℕ) (r : Request) → text ≡ front ++ 32 ∷ back →
    All (λ b. b ≢ 32) front → ((k : Kind) → front ≡ kind_text k → ⊥) → IsMakeOf r text → ⊥
kind_is_front text front back (Request.Make kind name) e first none is =
    let parts = same_split 32 (kind_text kind) name front back (sym is.1 ∙ e) (kind_whole kind)
    first in
    none kind (sym parts.0)
kind_is_front text front back r e first none is = is

pub name_is_back : (text front back : List ℕ) (r : Request) → text ≡ front ++ 32 ∷ back →
    All (λ b. b ≢ 32) front → (IsWord back → ⊥) → IsMakeOf r text → ⊥
name_is_back text front back (Request.Make kind name) e first none is =
    let parts = same_split 32 (kind_text kind) name front back (sym is.1 ∙ e) (kind_whole kind)
    first in
    none (subst IsWord parts.1 is.0)
name_is_back text front back r e first none is = is

-- ---- requests

-- The first two letters as one number: no two requests have the same.
abbrev letters : List ℕ → ℕ
letters t = get_or t 0 0 * 256 + get_or t 1 0

-- behind the word call stands a call and nothing else
pub request_is_call : (text rest : List ℕ) (r : Request) → text ≡ codes "call " ++ rest →
    IsRequestOf r text → IsCallOf r rest
request_is_call text rest (Request.Call name o) e is = (
  is.said.0,
  is.said.1,
  append_cancel_left (codes "call ") rest (name ++ 32 ∷ operation_text o)
      (sym e ∙ is.is),
)
request_is_call text rest r e is =
    let other = ap letters (sym e ∙ is.is) in absurd (omega arith)

pub call_is_request : (text rest : List ℕ) (r : Request) → text ≡ codes "call " ++ rest →
    IsCallOf r rest → IsRequestOf r text
call_is_request text rest (Request.Call name o) e is =
    record { said = (is.0, is.1); is = e ∙ ap (λ (t : List ℕ). codes "call " ++ t) is.2 }
call_is_request text rest r e is = absurd is

-- behind the word later stands a call that is deferred and nothing else
request_is_later : (text rest : List ℕ) (r : Request) → text ≡ codes "later " ++ rest →
    IsRequestOf r text → IsLaterOf r rest
request_is_later text rest (Request.Later name c) e is = (
  is.said.0,
  is.said.1,
  append_cancel_left (codes "later ") rest (name ++ 32 ∷ later_text c)
      (sym e ∙ is.is),
)
request_is_later text rest r e is =
    let other = ap letters (sym e ∙ is.is) in absurd (omega arith)

later_is_request : (text rest : List ℕ) (r : Request) → text ≡ codes "later " ++ rest →
    IsLaterOf r rest → IsRequestOf r text
later_is_request text rest (Request.Later name c) e is =
    record { said = (is.0, is.1); is = e ∙ ap (λ (t : List ℕ). codes "later " ++ t) is.2 }
later_is_request text rest r e is = absurd is

-- behind the word make stands a making and nothing else
request_is_make : (text rest : List ℕ) (r : Request) → text ≡ codes "make " ++ rest →
    IsRequestOf r text → IsMakeOf r rest
request_is_make text rest (Request.Make kind name) e is =
    (is.said, append_cancel_left (codes "make ") rest (kind_text kind ++ 32 ∷ name) (sym e ∙ is.is))
request_is_make text rest r e is =
    let other = ap letters (sym e ∙ is.is) in absurd (omega arith)

make_is_request : (text rest : List ℕ) (r : Request) → text ≡ codes "make " ++ rest →
    IsMakeOf r rest → IsRequestOf r text
make_is_request text rest (Request.Make kind name) e is =
    record { said = is.0; is = e ∙ ap (λ (t : List ℕ). codes "make " ++ t) is.1 }
make_is_request text rest r e is = absurd is

-- What is found under one meaning is found under another that says the same.
found_gives : {A E : Type 0} {P Q : A → Type 0} → ((a : A) → P a → Q a) → ((a : A) → Q a → P a) →
    (r : Result (Option A) E) → IfOk r (λ found. MatchOption found ((a : A) → P a → ⊥) P) →
    IfOk r (λ found. MatchOption found ((a : A) → Q a → ⊥) Q)
found_gives there back (Ok None) none = λ a is. none a (back a is)
found_gives there back (Ok (Some a)) is = there a is
found_gives there back (Err why) h = tt

-- what is found behind the word call is found in the whole text
pub called_gives : {E : Type 0} (r : Result (Option Request) E) (text rest : List ℕ) →
    text ≡ codes "call " ++ rest
    → IfOk r (λ found. MatchOption found ((q : Request) → IsCallOf q rest → ⊥)
    (λ q. IsCallOf q rest))
    → IfOk r (λ found. MatchOption found ((q : Request) → IsRequestOf q text → ⊥)
    (λ q. IsRequestOf q text))
called_gives r text rest e =
    found_gives (λ q. call_is_request text rest q e) (λ q. request_is_call text rest q e) r

-- what is found behind the word later is found in the whole text
pub deferred_gives : {E : Type 0} (r : Result (Option Request) E) (text rest : List ℕ) →
    text ≡ codes "later " ++ rest
    → IfOk r (λ found. MatchOption found ((q : Request) → IsLaterOf q rest → ⊥)
    (λ q. IsLaterOf q rest))
    → IfOk r (λ found. MatchOption found ((q : Request) → IsRequestOf q text → ⊥)
    (λ q. IsRequestOf q text))
deferred_gives r text rest e =
    found_gives (λ q. later_is_request text rest q e) (λ q. request_is_later text rest q e) r

-- what is found behind the word make is found in the whole text
pub made_gives : {E : Type 0} (r : Result (Option Request) E) (text rest : List ℕ) →
    text ≡ codes "make " ++ rest
    → IfOk r (λ found. MatchOption found ((q : Request) → IsMakeOf q rest → ⊥)
    (λ q. IsMakeOf q rest))
    → IfOk r (λ found. MatchOption found ((q : Request) → IsRequestOf q text → ⊥)
    (λ q. IsRequestOf q text))
made_gives r text rest e =
    found_gives (λ q. make_is_request text rest q e) (λ q. request_is_make text rest q e) r

-- ---- clients

pub no_client_without_space : (text : List ℕ) (a : Action) → All (λ b. b ≢ 32) text →
    IsClientLine a text → ⊥
no_client_without_space text (Action.Client n r) whole is =
    not_whole 32 text (decimal n) (request_text r) is.2 whole
no_client_without_space text a whole is = is

pub client_is_front : (text front back : List ℕ) (a : Action) → text ≡ front ++ 32 ∷ back →
    All (λ b. b ≢ 32) front → ((n : ℕ) → IsClient n → front ≡ decimal n → ⊥) → IsClientLine a text →
    ⊥
client_is_front text front back (Action.Client n r) e first none is =
    let last = is.0.last in
    let parts = same_split 32 (decimal n) (request_text r) front back (sym is.2 ∙ e)
    (decimal_whole n (omega arith)) first in
    none n is.0 (sym parts.0)
client_is_front text front back a e first none is = is

pub request_is_back : (text front back : List ℕ) (a : Action) → text ≡ front ++ 32 ∷ back →
    All (λ b. b ≢ 32) front → ((r : Request) → IsRequestOf r back → ⊥) → IsClientLine a text → ⊥
request_is_back text front back (Action.Client n r) e first none is =
    let last = is.0.last in
    let parts = same_split 32 (decimal n) (request_text r) front back (sym is.2 ∙ e)
    (decimal_whole n (omega arith)) first in
    none r (record { said = is.1; is = sym parts.1 })
request_is_back text front back a e first none is = is

line_is_client : (line rest : List ℕ) (a : Action) → line ≡ codes "c" ++ rest →
    (line ≡ codes "checkpoint" → ⊥) → IsLineOf a line → IsClientLine a rest
line_is_client line rest (Action.Client n r) e k is = (
  is.said.0,
  is.said.1,
  append_cancel_left (codes "c") rest (decimal n ++ 32 ∷ request_text r)
      (sym e ∙ is.is),
)
line_is_client line rest Action.Turn e k is =
    let other = ap (λ (t : List ℕ). get_or t 0 0) (sym e ∙ is.is) in absurd (omega arith)
line_is_client line rest Action.Checkpoint e k is = absurd (k is.is)

client_is_line : (line rest : List ℕ) (a : Action) → line ≡ codes "c" ++ rest →
    IsClientLine a rest → IsLineOf a line
client_is_line line rest (Action.Client n r) e is =
    record { said = (is.0, is.1); is = e ∙ ap (λ (t : List ℕ). codes "c" ++ t) is.2 }
client_is_line line rest a e is = absurd is

-- what is found behind the letter c is found in the whole line
pub client_gives : {E : Type 0} (r : Result (Option Action) E) (line rest : List ℕ) →
    line ≡ codes "c" ++ rest → (line ≡ codes "checkpoint" → ⊥)
    → IfOk r (λ found. MatchOption found ((a : Action) → IsClientLine a rest → ⊥)
    (λ a. IsClientLine a rest))
    → IfOk r (λ found. MatchOption found ((a : Action) → IsLineOf a line → ⊥)
    (λ a. IsLineOf a line))
client_gives r line rest e k =
    found_gives (λ a. client_is_line line rest a e) (λ a. line_is_client line rest a e k) r

-- a test that failed
pub denied : {P : Type 0} (b : Bool) → (IsTrue b ↔ P) → b ≡ false → P → ⊥
denied b both no_test p = true≢false (sym (both.1 p) ∙ no_test)
