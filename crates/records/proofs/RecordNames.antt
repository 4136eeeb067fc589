-- A name's test says whether it is a name, and a name is text.
use Rattle.std.proofs.Common.{◌≡◌, ℕ, ◌<◌, ◌≤◌, Bool, true, false, List, length, All, refl, arith}
use Rattle.std.specs.Bool.{Decides}
use Rattle.std.specs.List.{list_all}
use Rattle.std.specs.Str.{IsUtf8}
use Rattle.std.proofs.lemmas.Bool.Decides.{nat_tests, Decides-by_and}
use Rattle.std.proofs.lemmas.Str.{IsUtf8-from_ascii}
use Rattle.std.proofs.lemmas.Str.Ascii.{IsAscii-from_all}
use Rattle.std.proofs.lemmas.List.Elements.{All-weaker}
use Rattle.calls.specs.Names.{IsNameByte, IsName}
use Rattle.records.specs.RecordReading.{may_be_in_name, is_good_name}

byte_from_test : (b : ℕ) → may_be_in_name b ≡ true → IsNameByte b
byte_from_test b h = grind (arith, nat_tests)

test_from_byte : (b : ℕ) → IsNameByte b → may_be_in_name b ≡ true
test_from_byte b h = grind (arith, nat_tests)

decided : (b : ℕ) → Decides (may_be_in_name b) (IsNameByte b)
decided b = (byte_from_test b, test_from_byte b)

parts_of_test : (name : List ℕ) → is_good_name name ≡ true →
    (0 < length name) × (length name ≤ 64) × (list_all may_be_in_name name ≡ true)
parts_of_test name h = grind (arith, nat_tests)

test_of_parts : (name : List ℕ) → 0 < length name → length name ≤ 64 →
    list_all may_be_in_name name ≡ true → is_good_name name ≡ true
test_of_parts name positive short bytes = grind (arith, nat_tests)

all_decided : (name : List ℕ) → Decides (list_all may_be_in_name name) (All IsNameByte name)
all_decided name = Decides-by_and may_be_in_name IsNameByte (list_all may_be_in_name) decided refl
    (λ _ _. refl) name

pub IsName-from_test : (name : List ℕ) → is_good_name name ≡ true → IsName name
IsName-from_test name h =
    let parts = parts_of_test name h in
    record {
      spelt = record { not_empty = parts.0; allowed = (all_decided name).0 parts.2 };
      short = parts.1;
    }

pub test_from_IsName : (name : List ℕ) → IsName name → is_good_name name ≡ true
test_from_IsName name h = test_of_parts name h.spelt.not_empty h.short
    ((all_decided name).1 h.spelt.allowed)

byte_below : (b : ℕ) → IsNameByte b → b < 128
byte_below b h = grind arith

pub is_good_name_utf8 : (name : List ℕ) → is_good_name name ≡ true → IsUtf8 name
is_good_name_utf8 name h = IsUtf8-from_ascii name
    (IsAscii-from_all name (All-weaker IsNameByte (λ b. b < 128) byte_below name
    ((all_decided name).0 (parts_of_test name h).2)))

false_from : (b : Bool) → (b ≡ true → ⊥) → b ≡ false
false_from true h = absurd (h refl)
false_from false h = refl

pub not_good : (name : List ℕ) → (IsName name → ⊥) → is_good_name name ≡ false
not_good name h = false_from (is_good_name name) (λ e. h (IsName-from_test name e))
