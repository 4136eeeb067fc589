-- What each line of a script looks like.
use Rattle.std.specs.Prelude.{◌≡◌, ◌≢◌, ℕ, ◌<◌, ◌≤◌, ◌^◌, ◌⊎◌, ℤ, List, [], ◌∷◌, ◌++◌, length, All}
use Rattle.std.specs.Prelude.{codes, Option, Some, None}
use Rattle.std.specs.Int.{w64}
use Rattle.std.specs.Int.RustNames.{FitsSigned}
use Rattle.std.specs.Fmt.{decimal, signed_decimal}
use Rattle.std.specs.Str.{IsUtf8}
use Rattle.hex.specs.Hex.{encode_lower}
use Rattle.calls.specs.Contents.{kind_text}
use Rattle.calls.specs.declared.call.Call.{Call}
use Rattle.script.specs.declared.action.Operation.{Operation}
use Rattle.script.specs.declared.action.Request.{Request}
use Rattle.script.specs.declared.action.Action.{Action}
use Rattle.script.specs.declared.operations.Verb.{Verb}
use Rattle.script.specs.declared.operations.Numbers.{Numbers}

-- a text with no space in it
pub record IsWord (word : List ℕ) : Type 0 where
  pub text : IsUtf8 word
  pub not_empty : 0 < length word
  pub whole : All (λ b. b ≢ 32) word

-- a value of a map: each byte in two digits, and a dash where there is none
abbrev pub value_text : List ℕ → List ℕ
value_text [] = codes "-"
value_text (b ∷ v) = encode_lower (b ∷ v)

-- ---- operations

abbrev pub verb_text : Verb → List ℕ
verb_text Verb.Contains = codes "contains"
verb_text Verb.Add = codes "add"
verb_text Verb.Remove = codes "remove"
verb_text Verb.Get = codes "get"
verb_text Verb.Put = codes "put"
verb_text Verb.Ceiling = codes "ceiling"
verb_text Verb.Take = codes "take"
verb_text Verb.Least = codes "least"
verb_text Verb.Bump = codes "bump"
verb_text Verb.Read = codes "read"
verb_text Verb.Draw = codes "draw"
verb_text Verb.Release = codes "release"
verb_text Verb.Spend = codes "spend"
verb_text Verb.Level = codes "level"
verb_text Verb.Pick = codes "pick"
verb_text Verb.Fill = codes "fill"

-- The verb of an operation, and what stands behind it, if anything. No other operation is said.
abbrev pub said : Operation → Option (Verb × Option (List ℕ))
said (Operation.Remove key) = Some (Verb.Remove, Some (decimal key))
said (Operation.Call (Call.Contains x)) = Some (Verb.Contains, Some (decimal x))
said (Operation.Call (Call.SetAdd x)) = Some (Verb.Add, Some (decimal x))
said (Operation.Call (Call.Get key)) = Some (Verb.Get, Some (decimal key))
said (Operation.Call (Call.Put key v)) = Some (Verb.Put, Some (decimal key ++ 32 ∷ value_text v))
said (Operation.Call (Call.Ceiling key)) = Some (Verb.Ceiling, Some (decimal key))
said (Operation.Call (Call.QueueAdd p g)) = Some (Verb.Add, Some (decimal p ++ 32 ∷ decimal g))
said (Operation.Call Call.Take) = Some (Verb.Take, None)
said (Operation.Call Call.Least) = Some (Verb.Least, None)
said (Operation.Call (Call.Bump n)) = Some (Verb.Bump, Some (signed_decimal n))
said (Operation.Call Call.Read) = Some (Verb.Read, None)
said (Operation.Call Call.Draw) = Some (Verb.Draw, None)
said (Operation.Call (Call.Release x)) = Some (Verb.Release, Some (decimal x))
said (Operation.Call (Call.Spend n)) = Some (Verb.Spend, Some (decimal n))
said (Operation.Call Call.Level) = Some (Verb.Level, None)
said (Operation.Call Call.Pick) = Some (Verb.Pick, None)
said (Operation.Call (Call.QuotaSpend k n)) = Some (Verb.Spend, Some (decimal k ++ 32 ∷ decimal n))
said (Operation.Call (Call.QuotaLevel k)) = Some (Verb.Level, Some (decimal k))
said (Operation.Call (Call.QuotaFill k n)) = Some (Verb.Fill, Some (decimal k ++ 32 ∷ decimal n))
said (Operation.Call c) = None

abbrev pub said_text : Option (Verb × Option (List ℕ)) → List ℕ
said_text None = []
said_text (Some (verb, None)) = verb_text verb
said_text (Some (verb, Some behind)) = verb_text verb ++ 32 ∷ behind

abbrev pub operation_text : Operation → List ℕ
operation_text o = said_text (said o)

-- an operation that can be said: its numbers are of 64 bits, and its values of bytes
abbrev pub CanBeDone : Operation → Type 0
CanBeDone (Operation.Remove key) = key < 2 ^ 64
CanBeDone (Operation.Call (Call.Contains x)) = x < 2 ^ 64
CanBeDone (Operation.Call (Call.SetAdd x)) = x < 2 ^ 64
CanBeDone (Operation.Call (Call.Get key)) = key < 2 ^ 64
CanBeDone (Operation.Call (Call.Put key v)) = (key < 2 ^ 64) × All (λ b. b < 256) v
CanBeDone (Operation.Call (Call.Ceiling key)) = key < 2 ^ 64
CanBeDone (Operation.Call (Call.QueueAdd p g)) = (p < 2 ^ 64) × (g < 2 ^ 64)
CanBeDone (Operation.Call Call.Take) = Unit {0}
CanBeDone (Operation.Call Call.Least) = Unit {0}
CanBeDone (Operation.Call (Call.Bump n)) = FitsSigned w64 n
CanBeDone (Operation.Call Call.Read) = Unit {0}
CanBeDone (Operation.Call Call.Draw) = Unit {0}
CanBeDone (Operation.Call (Call.Release x)) = x < 2 ^ 64
CanBeDone (Operation.Call (Call.Spend n)) = n < 2 ^ 64
CanBeDone (Operation.Call Call.Level) = Unit {0}
CanBeDone (Operation.Call Call.Pick) = Unit {0}
CanBeDone (Operation.Call (Call.QuotaSpend k n)) = (k < 2 ^ 64) × (n < 2 ^ 64)
CanBeDone (Operation.Call (Call.QuotaLevel k)) = k < 2 ^ 64
CanBeDone (Operation.Call (Call.QuotaFill k n)) = (k < 2 ^ 64) × (n < 2 ^ 64)
CanBeDone (Operation.Call c) = ⊥

-- the text is a number of 64 bits
abbrev pub IsKey : List ℕ → Type 0
IsKey text = (n : ℕ) × (n < 2 ^ 64) × (text ≡ decimal n)

-- the text is two of them, with a space between
abbrev pub IsPair : List ℕ → Type 0
IsPair text =
    (p g : ℕ) × (p < 2 ^ 64) × (g < 2 ^ 64) × (text ≡ decimal p ++ 32 ∷ decimal g)

abbrev pub IsKeyOrPair : List ℕ → Type 0
IsKeyOrPair text = IsKey text ⊎ IsPair text

-- the text is these numbers
abbrev pub AreNumbers : Numbers → List ℕ → Type 0
AreNumbers (Numbers.One k) text = (k < 2 ^ 64) × (text ≡ decimal k)
AreNumbers (Numbers.Two p g) text =
    (p < 2 ^ 64) × (g < 2 ^ 64) × (text ≡ decimal p ++ 32 ∷ decimal g)

-- What may stand behind a verb.
abbrev pub HasArguments : Verb → List ℕ → Type 0
HasArguments Verb.Contains text = IsKey text
HasArguments Verb.Add text = IsKeyOrPair text
HasArguments Verb.Remove text = IsKey text
HasArguments Verb.Get text = IsKey text
HasArguments Verb.Put text = (k : ℕ) × (v : List ℕ) × (k < 2 ^ 64) × All (λ b. b < 256) v ×
    (text ≡ decimal k ++ 32 ∷ value_text v)
HasArguments Verb.Ceiling text = IsKey text
HasArguments Verb.Bump text = (n : ℤ) × FitsSigned w64 n × (text ≡ signed_decimal n)
HasArguments Verb.Release text = IsKey text
HasArguments Verb.Spend text = IsKeyOrPair text
HasArguments Verb.Level text = IsKey text
HasArguments Verb.Fill text = IsPair text
HasArguments verb text = ⊥

-- a verb behind which one key stands, and nothing else
abbrev pub IsKeyed : Verb → Type 0
IsKeyed Verb.Contains = Unit {0}
IsKeyed Verb.Remove = Unit {0}
IsKeyed Verb.Get = Unit {0}
IsKeyed Verb.Ceiling = Unit {0}
IsKeyed Verb.Release = Unit {0}
IsKeyed Verb.Level = Unit {0}
IsKeyed verb = ⊥

-- ---- calls that are deferred

-- a bump or a fill; no other call is deferred
abbrev pub later_text : Call → List ℕ
later_text (Call.Bump n) = codes "bump " ++ signed_decimal n
later_text (Call.Fill n) = codes "fill " ++ decimal n
later_text c = []

abbrev pub CanBeDeferred : Call → Type 0
CanBeDeferred (Call.Bump n) = FitsSigned w64 n
CanBeDeferred (Call.Fill n) = n < 2 ^ 64
CanBeDeferred c = ⊥

-- ---- requests

abbrev pub request_text : Request → List ℕ
request_text (Request.Make kind name) = codes "make " ++ (kind_text kind ++ 32 ∷ name)
request_text Request.Begin = codes "begin"
request_text (Request.Call name o) = codes "call " ++ (name ++ 32 ∷ operation_text o)
request_text (Request.Later name c) = codes "later " ++ (name ++ 32 ∷ later_text c)
request_text Request.Commit = codes "commit"
request_text Request.Abort = codes "abort"
request_text Request.Kept = codes "kept"

-- the number of a client
pub record IsClient (n : ℕ) : Type 0 where
  pub first : 1 ≤ n
  pub last : n ≤ 64

abbrev pub action_text : Action → List ℕ
action_text (Action.Client client r) = codes "c" ++ (decimal client ++ 32 ∷ request_text r)
action_text Action.Turn = codes "turn"
action_text Action.Checkpoint = codes "checkpoint"

-- ---- what can be said

abbrev pub CanBeAsked : Request → Type 0
CanBeAsked (Request.Make kind name) = IsWord name
CanBeAsked Request.Begin = Unit {0}
CanBeAsked (Request.Call name o) = IsWord name × CanBeDone o
CanBeAsked (Request.Later name c) = IsWord name × CanBeDeferred c
CanBeAsked Request.Commit = Unit {0}
CanBeAsked Request.Abort = Unit {0}
CanBeAsked Request.Kept = Unit {0}

abbrev pub CanBeSaid : Action → Type 0
CanBeSaid (Action.Client client r) = IsClient client × CanBeAsked r
CanBeSaid Action.Turn = Unit {0}
CanBeSaid Action.Checkpoint = Unit {0}

-- the text asks for this
pub record IsRequestOf (r : Request) (text : List ℕ) : Type 0 where
  pub said : CanBeAsked r
  pub is : text ≡ request_text r

-- the text, behind the word make, asks for this making
abbrev pub IsMakeOf : Request → List ℕ → Type 0
IsMakeOf (Request.Make kind name) text = IsWord name × (text ≡ kind_text kind ++ 32 ∷ name)
IsMakeOf r text = ⊥

-- the text, behind the word call, asks for this operation
abbrev pub IsCallOf : Request → List ℕ → Type 0
IsCallOf (Request.Call name o) text =
    IsWord name × CanBeDone o × (text ≡ name ++ 32 ∷ operation_text o)
IsCallOf r text = ⊥

-- the text, behind the word later, asks for this call
abbrev pub IsLaterOf : Request → List ℕ → Type 0
IsLaterOf (Request.Later name c) text =
    IsWord name × CanBeDeferred c × (text ≡ name ++ 32 ∷ later_text c)
IsLaterOf r text = ⊥

-- the text, behind the letter c, asks for this
abbrev pub IsClientLine : Action → List ℕ → Type 0
IsClientLine (Action.Client client r) text =
    IsClient client × CanBeAsked r × (text ≡ decimal client ++ 32 ∷ request_text r)
IsClientLine a text = ⊥

-- the line says this
pub record IsLineOf (a : Action) (line : List ℕ) : Type 0 where
  pub said : CanBeSaid a
  pub is : line ≡ action_text a

-- the line is empty or a remark
abbrev pub IsPassedOver : List ℕ → Type 0
IsPassedOver [] = Unit {0}
IsPassedOver (b ∷ line) = b ≡ 35
