-- The edits of a copy, as the command line writes them.
use Rattle.std.proofs.Common.{◌≡◌, ℕ, ◌<◌, ◌≤◌, List, [], ◌∷◌, ◌++◌, length, map, take, Bor}
use Rattle.std.proofs.Common.{Some, None, refl, sym, ◌∙◌, ap, arith, append-nil}
use Rattle.std.proofs.lemmas.List.{take_all}
use Rattle.std.specs.Prelude.{unwrap_or}
use Rattle.std.specs.Option.{option_map}
use Rattle.clap.specs.Matches.{matched_of, raw_values}
use Rattle.clap.specs.Walk.{Text, texts, rows_of}
use Rattle.clap.specs.declared.parser.matches.Found.{Found}
use Rattle.clap.proofs.WalkLemmas.{raw_values-rows}
use Rattle.recovery.specs.declared.editing.Edit.{Edit}
use Rattle.boost.specs.Arguments.{renames, values_of}

pub all_without : (old now : List Edit) (names : List (Bor Text)) (i : ℕ) → length names ≤ i →
    now ≡ old ++ map Edit.Without (texts (take i names)) →
    now ≡ old ++ map Edit.Without (texts names)
all_without old now names i all so_far =
    so_far ∙ ap (λ l. old ++ map Edit.Without (texts l)) (take_all i names all)

few_left : (left : List (Bor Text)) → length left < 2 → renames (texts left) ≡ []
few_left [] few = refl
few_left (x ∷ []) few = refl
few_left (x ∷ y ∷ more) few = absurd (omega (arith, few))

pub all_renamed : (now all : List Edit) (left : List (Bor Text)) → length left < 2 →
    now ++ renames (texts left) ≡ all → now ≡ all
all_renamed now all left few so_far =
    sym (append-nil now) ∙ ap (λ l. now ++ l) (sym (few_left left few)) ∙ so_far

pub values_some : (f : Found) (id : Text) (vs : List Text) →
    Some vs ≡ option_map raw_values (matched_of f id) → vs ≡ values_of id (rows_of f)
values_some f id vs is = ap (λ o. unwrap_or o []) (is ∙ raw_values-rows f id)

pub values_none : (f : Found) (id : Text) → None ≡ option_map raw_values (matched_of f id) →
    [] ≡ values_of id (rows_of f)
values_none f id is = ap (λ o. unwrap_or o []) (is ∙ raw_values-rows f id)
