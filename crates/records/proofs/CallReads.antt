-- Calls, replies and inverses that are read are spelled so, and what is spelled so is read.
use Rattle.std.proofs.Common.{◌≡◌, ℕ, ◌^◌, ◌<◌, ◌≤◌, false, eqb, ltb, ℤ}
use Rattle.std.proofs.Common.{List, [], ◌∷◌}
use Rattle.std.proofs.Common.{◌++◌, length, take, drop, Option, Some, None, refl, sym, ap, subst}
use Rattle.std.proofs.Common.{◌∙◌, append_assoc, arith, inl, inr}
use Rattle.std.specs.Prelude.{IfSome}
use Rattle.std.specs.Int.{w64, w128, cast_signed, cast_unsigned}
use Rattle.std.specs.Int.RustNames.{FitsSigned}
use Rattle.std.proofs.Math.Facts.{Fits-of_lt, sfits_to_z}
use Rattle.std.proofs.lemmas.Bool.{eqb-true, ltb-false, le-ltb}
use Rattle.std.proofs.lemmas.Int.{to_z-of_z, of_z-to_z, ints}
use Rattle.std.proofs.lemmas.List.{take_at, drop_at, take-append-drop, length-append, length-take}
use Rattle.std.proofs.lemmas.List.Elements.{All-from_get_or}
use Rattle.calls.specs.declared.kind.Kind.{Kind}
use Rattle.calls.specs.declared.call.Call.{Call}
use Rattle.calls.specs.declared.reply.Reply.{Reply}
use Rattle.calls.specs.Formats.{max_value, widest}
use Rattle.calls.specs.Names.{IsName}
use Rattle.records.specs.declared.record.CallRecord.{CallRecord}
use Rattle.records.specs.declared.record.LaterRecord.{LaterRecord}
use Rattle.records.specs.Records.{number, signed, wide, value, kind_code, named, call, reply}
use Rattle.records.specs.Records.{inverse, called, deferred, IsValue, FitsCall}
use Rattle.records.specs.Records.{FitsReply, FitsCalled, FitsDeferred}
use Rattle.records.specs.RecordReading.{byte_in, number_in}
use Rattle.records.specs.RecordReading.{pair_in, value_in, entry_in}
use Rattle.records.specs.RecordReading.{kind_of, is_good_name, name_in, named_in}
use Rattle.records.specs.RecordReading.{keyed_calls, keyed_call_behind, other_calls}
use Rattle.records.specs.RecordReading.{call_behind, call_in, replies, reply_behind}
use Rattle.records.specs.RecordReading.{reply_in, nothing, inverse_in, called_in, deferred_in}
use Rattle.records.proofs.RecordNames.{IsName-from_test, test_from_IsName}
use Rattle.records.proofs.RecordFields.{IsBytes, IsBytes-drop, IsBytes-take, IsBytes-rest}
use Rattle.records.proofs.RecordFields.{which, bound, went, some_is, Takes, Takes-then}
use Rattle.records.proofs.RecordFields.{number_takes, number_again}
use Rattle.records.proofs.Readers.{IsTaken, Reads, number_reads, both_reads, made_again}
use Rattle.records.proofs.Readers.{Behind, plain_behind, made_behind}
use Rattle.records.proofs.Readers.{read_at_behind, numbered_behind_code}

byte_takes : (bytes : List ℕ) (x : ℕ × List ℕ) → IsBytes bytes → byte_in bytes ≡ Some x →
    Takes bytes (x.0 ∷ []) x.1 × (x.0 < 256)
byte_takes [] x f e = absurd cc
byte_takes (b ∷ bytes) x f e =
    subst (λ (y : ℕ × List ℕ). Takes (b ∷ bytes) (y.0 ∷ []) y.1 × (y.0 < 256))
    (some_is (b, bytes) x e) (record { parts = refl; rest_fits = IsBytes-rest b bytes f }, f 0)

-- ---- numbers, pairs and values

pub pair_reads : Reads (λ (p : ℕ × ℕ). number 8 p.0 ++ number 8 p.1)
    (λ (p : ℕ × ℕ). (p.0 < 256 ^ 8) × (p.1 < 256 ^ 8)) pair_in
unfolding pair_in
pair_reads = both_reads (number 8) (λ n. n < 256 ^ 8) (number_in 8) (number 8) (λ n. n < 256 ^ 8)
    (number_in 8) (number_reads 8) (number_reads 8)

IsValue-taken : (len : ℕ) (bytes : List ℕ) → len ≤ max_value widest → len ≤ length bytes →
    IsBytes bytes →
    IsValue (take len bytes)
IsValue-taken len bytes short long f =
    record {
      short = omega (arith, length-take len bytes);
      bytes = All-from_get_or (λ b. b < 256) (take len bytes) 0
          (λ i lt. IsBytes-take len bytes f i);
    }

value_takes : (bytes : List ℕ) (x : List ℕ × List ℕ) → IsBytes bytes → value_in bytes ≡ Some x →
    IsTaken value IsValue bytes x
unfolding value_in
value_takes bytes x f e =
    elim (which (number_in 2 bytes)) [
      | inl h ↦ let e1 = simp h at e in absurd cc
      | inr (len, h) ↦
          let e1 = simp h at e in
          let first = number_takes 2 bytes len f h in
          elim (went (ltb (max_value widest) len.0)) [
            | inl over ↦ let e2 = simp over at e1 in absurd cc
            | inr within ↦
                let e2 = simp within at e1 in
                elim (went (ltb (length len.1) len.0)) [
                  | inl short ↦ let e3 = simp short at e2 in absurd cc
                  | inr long ↦
                      let e3 = simp long at e2 in
                      let enough : len.0 ≤ length len.1 = ltb-false _ _ long in
                      let at_most : len.0 ≤ max_value widest = ltb-false _ _ within in
                      let found : List ℕ × List ℕ = (take len.0 len.1, drop len.0 len.1) in
                      let len_is : length (take len.0 len.1) ≡ len.0 =
                      omega (arith, length-take len.0 len.1) in
                      let second : Takes len.1 (take len.0 len.1) (drop len.0 len.1) =
                      record {
                        parts = sym (take-append-drop len.0 len.1);
                        rest_fits = IsBytes-drop len.0 len.1 first.0.rest_fits;
                      } in
                      let whole = Takes-then bytes (number 2 len.0) len.1 (take len.0 len.1)
                      (drop len.0 len.1) first.0 second in
                      let spelt : Takes bytes (value (take len.0 len.1)) (drop len.0 len.1) =
                      subst (λ (k : ℕ). Takes bytes (number 2 k ++ take len.0 len.1)
                      (drop len.0 len.1)) (sym len_is) whole in
                      subst (IsTaken value IsValue bytes) (some_is found x e3)
                      (spelt, IsValue-taken len.0 len.1 at_most enough first.0.rest_fits)
                ]
          ]
    ]

value_again : (v rest : List ℕ) → IsValue v → value_in (value v ++ rest) ≡ Some (v, rest)
unfolding value_in
value_again v rest h =
    let regrouped : value v ++ rest ≡ number 2 (length v) ++ (v ++ rest) =
    append_assoc (number 2 (length v)) v rest in
    let short : length v ≤ max_value widest = h.short in
    let below : length v < 256 ^ 2 = omega arith in
    let within : ltb (max_value widest) (length v) ≡ false = le-ltb _ _ short in
    let long : ltb (length (v ++ rest)) (length v) ≡ false =
    le-ltb _ _ (omega (arith, length-append v rest)) in
    ap value_in regrouped ∙ rw (
      number_again 2 (length v) (v ++ rest) below,
      within,
      long,
      take_at v rest (length v) refl,
      drop_at v rest (length v) refl,
    ) refl

value_reads : Reads value IsValue value_in
value_reads = record { takes = value_takes; again = value_again }

pub entry_reads : Reads (λ (e : ℕ × List ℕ). number 8 e.0 ++ value e.1)
    (λ (e : ℕ × List ℕ). (e.0 < 256 ^ 8) × IsValue e.1) entry_in
unfolding entry_in
entry_reads = both_reads (number 8) (λ n. n < 256 ^ 8) (number_in 8) value IsValue value_in
    (number_reads 8) value_reads

-- ---- kinds and names

kind_of-code : (kind : Kind) → kind_of (kind_code kind) ≡ Some kind
kind_of-code Kind.Set = refl
kind_of-code Kind.Map = refl
kind_of-code Kind.Queue = refl
kind_of-code Kind.Counter = refl
kind_of-code Kind.Pool = refl
kind_of-code Kind.Stock = refl
kind_of-code Kind.Quotas = refl

code_of-kind : (code : ℕ) (kind : Kind) → kind_of code ≡ Some kind → kind_code kind ≡ code
code_of-kind code kind e = grind (arith, eqb-true)

name_takes : (bytes : List ℕ) (x : List ℕ × List ℕ) → IsBytes bytes → name_in bytes ≡ Some x →
    Takes bytes (length x.0 ∷ x.0) x.1 × IsName x.0
unfolding name_in
name_takes bytes x f e =
    elim (which (byte_in bytes)) [
      | inl h ↦ let e1 = simp h at e in absurd cc
      | inr (len, h) ↦
          let e1 = simp h at e in
          let first = byte_takes bytes len f h in
          elim (went (ltb (length len.1) len.0)) [
            | inl short ↦ let e2 = simp short at e1 in absurd cc
            | inr long ↦
                let e2 = simp long at e1 in
                let enough : len.0 ≤ length len.1 = ltb-false _ _ long in
                elim (went (is_good_name (take len.0 len.1))) [
                  | inl good ↦
                      let e3 = simp good at e2 in
                      let len_is : length (take len.0 len.1) ≡ len.0 =
                      omega (arith, length-take len.0 len.1) in
                      let second : Takes len.1 (take len.0 len.1) (drop len.0 len.1) =
                      record {
                        parts = sym (take-append-drop len.0 len.1);
                        rest_fits = IsBytes-drop len.0 len.1 first.0.rest_fits;
                      } in
                      let both = Takes-then bytes (len.0 ∷ []) len.1 (take len.0 len.1)
                      (drop len.0 len.1) first.0 second in
                      let whole : Takes bytes (length (take len.0 len.1) ∷ take len.0 len.1)
                      (drop len.0 len.1) = subst (λ (k : ℕ). Takes bytes (k ∷ take len.0 len.1)
                      (drop len.0 len.1)) (sym len_is) both in
                      subst (λ (y : List ℕ × List ℕ). Takes bytes (length y.0 ∷ y.0) y.1 ×
                      IsName y.0) (some_is (take len.0 len.1, drop len.0 len.1) x e3)
                      (whole, IsName-from_test (take len.0 len.1) good)
                  | inr bad ↦ let e3 = simp bad at e2 in absurd cc
                ]
          ]
    ]

name_again : (name rest : List ℕ) → IsName name →
    name_in (length name ∷ (name ++ rest)) ≡ Some (name, rest)
unfolding name_in
name_again name rest h =
    let long : ltb (length (name ++ rest)) (length name) ≡ false =
    le-ltb _ _ (omega (arith, length-append name rest)) in
    let good = test_from_IsName name h in
    rw (long, take_at name rest (length name) refl, drop_at name rest (length name) refl, good) refl

pub named_takes : (bytes : List ℕ) (x : Kind × List ℕ × List ℕ) → IsBytes bytes →
    named_in bytes ≡ Some x → Takes bytes (named x.0 x.1) x.2 × IsName x.1
unfolding named_in
named_takes bytes x f e =
    let code = bound (byte_in bytes) _ x e in
    let first = byte_takes bytes code.0 f code.1 in
    let kind = bound (kind_of code.0.0) _ x code.2 in
    let name = bound (name_in code.0.1) _ x kind.2 in
    let second = name_takes code.0.1 name.0 first.0.rest_fits name.1 in
    let whole : Takes bytes (named kind.0 name.0.0) name.0.1 =
    subst (λ (b : ℕ). Takes bytes (b ∷ length name.0.0 ∷ name.0.0) name.0.1)
    (sym (code_of-kind code.0.0 kind.0 kind.1)) (Takes-then _ _ _ _ _ first.0 second.0) in
    let found : Kind × List ℕ × List ℕ = (kind.0, name.0.0, name.0.1) in
    subst (λ (y : Kind × List ℕ × List ℕ). Takes bytes (named y.0 y.1) y.2 × IsName y.1)
    (some_is found x name.2) (whole, second.1)

pub named_again : (kind : Kind) (name rest : List ℕ) → IsName name →
    named_in (named kind name ++ rest) ≡ Some (kind, name, rest)
unfolding named_in
named_again kind name rest h = rw (kind_of-code kind, name_again name rest h) refl

-- ---- calls

signed_fits : (n : ℕ) → n < 256 ^ 8 → FitsSigned w64 (cast_signed w64 n)
signed_fits n lt = sfits_to_z {w = w64} {n = n} (Fits-of_lt lt)

pub wide_fits : (n : ℕ) → n < 256 ^ 16 → FitsSigned w128 (cast_signed w128 n)
wide_fits n lt = sfits_to_z {w = w128} {n = n} (Fits-of_lt lt)

signed_again : (n : ℤ) (rest : List ℕ) → FitsSigned w64 n →
    number_in 8 (signed n ++ rest) ≡ Some (cast_unsigned w64 n, rest)
signed_again n rest fits = number_again 8 (cast_unsigned w64 n) rest (omega (arith, ints))

pub wide_again : (n : ℤ) (rest : List ℕ) → FitsSigned w128 n →
    number_in 16 (wide n ++ rest) ≡ Some (cast_unsigned w128 n, rest)
wide_again n rest fits = number_again 16 (cast_unsigned w128 n) rest (omega (arith, ints))

keyed_call_takes : (code : ℕ) → Behind call FitsCall code (keyed_call_behind code)
unfolding keyed_call_behind
keyed_call_takes code =
    numbered_behind_code call FitsCall keyed_calls (
      (λ n h. (refl, h)),
      (
        (λ n h. (refl, h)),
        (
          (λ n h. (refl, h)),
          (
            (λ n h. (refl, h)),
            (
              (λ n h. (refl, h)),
              (
                (λ n h. (refl, h)),
                (
                  (λ n h. (refl, h)),
                  (
                    (λ n h. (refl, h)),
                    (
                      (λ n h. (refl, h)),
                      ((λ n h. (refl, h)), ((λ n h. (refl, h)), tt)),
                    ),
                  ),
                ),
              ),
            ),
          ),
        ),
      ),
    ) code

bump_spelt : (n : ℕ) → n < 256 ^ 8 → call (Call.Bump (cast_signed w64 n)) ≡ 12 ∷ number 8 n
bump_spelt n lt = ap (λ (k : ℕ). 12 ∷ number 8 k) (of_z-to_z w64 n lt)

call_takes : (code : ℕ) → Behind call FitsCall code (call_behind code)
unfolding call_behind
call_takes code =
    read_at_behind call FitsCall other_calls keyed_call_behind (
      made_behind _ _ _ entry_reads call FitsCall 5 (λ e. Call.Put e.0 e.1) (λ e h. refl)
          (λ e h. h),
      (
        made_behind _ _ _ pair_reads call FitsCall 8 (λ p. Call.QueueAdd p.0 p.1) (λ p h. refl)
            (λ p h. h),
        (
          plain_behind call FitsCall 9 Call.Take refl tt,
          (
            plain_behind call FitsCall 10 Call.Least refl tt,
            (
              made_behind _ _ _ pair_reads call FitsCall 11 (λ p. Call.Pluck p.0 p.1) (λ p h. refl)
                  (λ p h. h),
              (
                made_behind _ _ _ (number_reads 8) call FitsCall 12
                    (λ n. Call.Bump (cast_signed w64 n)) bump_spelt signed_fits,
                (
                  plain_behind call FitsCall 13 Call.Read refl tt,
                  (
                    plain_behind call FitsCall 14 Call.Draw refl tt,
                    (
                      plain_behind call FitsCall 18 Call.Level refl tt,
                      (
                        plain_behind call FitsCall 20 Call.Pick refl tt,
                        (
                          made_behind _ _ _ pair_reads call FitsCall 21
                              (λ p. Call.QuotaSpend p.0 p.1) (λ p h. refl) (λ p h. h),
                          (
                            made_behind _ _ _ pair_reads call FitsCall 23
                                (λ p. Call.QuotaFill p.0 p.1) (λ p h. refl) (λ p h. h),
                            (
                              made_behind _ _ _ pair_reads call FitsCall 24
                                  (λ p. Call.Refund p.0 p.1) (λ p h. refl) (λ p h. h),
                              tt,
                            ),
                          ),
                        ),
                      ),
                    ),
                  ),
                ),
              ),
            ),
          ),
        ),
      ),
    ) keyed_call_takes code

call_again : (c : Call) (rest : List ℕ) → FitsCall c → call_in (call c ++ rest) ≡ Some (c, rest)
unfolding call_in call_behind keyed_call_behind
call_again (Call.Contains x) rest fits = rw (number_again 8 x rest fits) refl
call_again (Call.SetAdd x) rest fits = rw (number_again 8 x rest fits) refl
call_again (Call.SetRemove x) rest fits = rw (number_again 8 x rest fits) refl
call_again (Call.Get k) rest fits = rw (number_again 8 k rest fits) refl
call_again (Call.Put k v) rest fits =
    made_again (λ e. Call.Put e.0 e.1) entry_in ((number 8 k ++ value v) ++ rest) (k, v) rest
    (entry_reads.again (k, v) rest fits)
call_again (Call.MapRemove k) rest fits = rw (number_again 8 k rest fits) refl
call_again (Call.Ceiling k) rest fits = rw (number_again 8 k rest fits) refl
call_again (Call.QueueAdd p g) rest fits =
    made_again (λ p. Call.QueueAdd p.0 p.1) pair_in ((number 8 p ++ number 8 g) ++ rest) (p, g) rest
    (pair_reads.again (p, g) rest fits)
call_again Call.Take rest fits = refl
call_again Call.Least rest fits = refl
call_again (Call.Pluck p g) rest fits =
    made_again (λ p. Call.Pluck p.0 p.1) pair_in ((number 8 p ++ number 8 g) ++ rest) (p, g) rest
    (pair_reads.again (p, g) rest fits)
call_again (Call.Bump n) rest fits = rw (signed_again n rest fits, to_z-of_z w64 n fits) refl
call_again Call.Read rest fits = refl
call_again Call.Draw rest fits = refl
call_again (Call.Release x) rest fits = rw (number_again 8 x rest fits) refl
call_again (Call.Free x) rest fits = rw (number_again 8 x rest fits) refl
call_again (Call.Spend n) rest fits = rw (number_again 8 n rest fits) refl
call_again Call.Level rest fits = refl
call_again (Call.Fill n) rest fits = rw (number_again 8 n rest fits) refl
call_again Call.Pick rest fits = refl
call_again (Call.QuotaSpend k n) rest fits =
    made_again (λ p. Call.QuotaSpend p.0 p.1) pair_in ((number 8 k ++ number 8 n) ++ rest) (k, n)
    rest (pair_reads.again (k, n) rest fits)
call_again (Call.QuotaLevel k) rest fits = rw (number_again 8 k rest fits) refl
call_again (Call.QuotaFill k n) rest fits =
    made_again (λ p. Call.QuotaFill p.0 p.1) pair_in ((number 8 k ++ number 8 n) ++ rest) (k, n)
    rest (pair_reads.again (k, n) rest fits)
call_again (Call.Refund k n) rest fits =
    made_again (λ p. Call.Refund p.0 p.1) pair_in ((number 8 k ++ number 8 n) ++ rest) (k, n)
    rest (pair_reads.again (k, n) rest fits)

call_in_takes : (bytes : List ℕ) (x : Call × List ℕ) → IsBytes bytes → call_in bytes ≡ Some x →
    IsTaken call FitsCall bytes x
unfolding call_in
call_in_takes [] x f e = absurd cc
call_in_takes (code ∷ bytes) x f e = call_takes code bytes x (IsBytes-rest code bytes f) e

-- ---- replies

total_spelt : (n : ℕ) → n < 256 ^ 16 → reply (Reply.Total (cast_signed w128 n)) ≡ 7 ∷ number 16 n
total_spelt n lt = ap (λ (k : ℕ). 7 ∷ number 16 k) (of_z-to_z w128 n lt)

no_reply : (code : ℕ) → Behind reply FitsReply code (nothing code)
no_reply code bytes x f e = absurd cc

reply_takes : (code : ℕ) → Behind reply FitsReply code (reply_behind code)
unfolding reply_behind
reply_takes code =
    read_at_behind reply FitsReply replies nothing (
      plain_behind reply FitsReply 0 Reply.Done refl tt,
      (
        plain_behind reply FitsReply 1 Reply.No refl tt,
        (
          plain_behind reply FitsReply 2 Reply.Yes refl tt,
          (
            plain_behind reply FitsReply 3 Reply.Nothing refl tt,
            (
              made_behind _ _ _ value_reads reply FitsReply 4 Reply.Value (λ v h. refl) (λ v h. h),
              (
                made_behind _ _ _ entry_reads reply FitsReply 5 (λ e. Reply.Entry e.0 e.1)
                    (λ e h. refl) (λ e h. h),
                (
                  made_behind _ _ _ pair_reads reply FitsReply 6 (λ p. Reply.Item p.0 p.1)
                      (λ p h. refl) (λ p h. h),
                  (
                    made_behind _ _ _ (number_reads 16) reply FitsReply 7
                        (λ n. Reply.Total (cast_signed w128 n)) total_spelt wide_fits,
                    (
                      made_behind _ _ _ (number_reads 8) reply FitsReply 8 Reply.Id (λ n h. refl)
                          (λ n h. h),
                      (
                        plain_behind reply FitsReply 9 Reply.Queued refl tt,
                        (plain_behind reply FitsReply 10 Reply.Absent refl tt, tt),
                      ),
                    ),
                  ),
                ),
              ),
            ),
          ),
        ),
      ),
    ) no_reply code

reply_again : (r : Reply) (rest : List ℕ) → FitsReply r →
    reply_in (reply r ++ rest) ≡ Some (r, rest)
unfolding reply_in reply_behind
reply_again Reply.Done rest fits = refl
reply_again Reply.No rest fits = refl
reply_again Reply.Yes rest fits = refl
reply_again Reply.Nothing rest fits = refl
reply_again (Reply.Value v) rest fits =
    made_again Reply.Value value_in (value v ++ rest) v rest (value_again v rest fits)
reply_again (Reply.Entry k v) rest fits =
    made_again (λ e. Reply.Entry e.0 e.1) entry_in ((number 8 k ++ value v) ++ rest) (k, v) rest
    (entry_reads.again (k, v) rest fits)
reply_again (Reply.Item p g) rest fits =
    made_again (λ p. Reply.Item p.0 p.1) pair_in ((number 8 p ++ number 8 g) ++ rest) (p, g) rest
    (pair_reads.again (p, g) rest fits)
reply_again (Reply.Total n) rest fits = rw (wide_again n rest fits, to_z-of_z w128 n fits) refl
reply_again (Reply.Id x) rest fits = rw (number_again 8 x rest fits) refl
reply_again Reply.Queued rest fits = refl
reply_again Reply.Absent rest fits = refl

reply_in_takes : (bytes : List ℕ) (x : Reply × List ℕ) → IsBytes bytes → reply_in bytes ≡ Some x →
    IsTaken reply FitsReply bytes x
unfolding reply_in
reply_in_takes [] x f e = absurd cc
reply_in_takes (code ∷ bytes) x f e = reply_takes code bytes x (IsBytes-rest code bytes f) e

-- ---- inverses

abbrev FitsInverse : Option Call → Type 0
FitsInverse o = IfSome o FitsCall

inverse_takes : (bytes : List ℕ) (x : Option Call × List ℕ) → IsBytes bytes →
    inverse_in bytes ≡ Some x → IsTaken inverse FitsInverse bytes x
unfolding inverse_in
inverse_takes [] x f e = absurd cc
inverse_takes (code ∷ bytes) x f e =
    elim (went (eqb code 0)) [
      | inl is ↦
          let e1 = simp is at e in
          let code_is : code ≡ 0 = eqb-true _ _ is in
          let whole : Takes (code ∷ bytes) (0 ∷ []) bytes =
          record {
            parts = ap (λ (b : ℕ). b ∷ bytes) code_is;
            rest_fits = IsBytes-rest code bytes f;
          } in
          let found : Option Call × List ℕ = (None, bytes) in
          subst (IsTaken inverse FitsInverse (code ∷ bytes)) (some_is found x e1) (whole, tt)
      | inr other ↦
          let e1 = simp other at e in
          let c = bound (call_behind code bytes) _ x e1 in
          let found : Option Call × List ℕ = (Some c.0.0, c.0.1) in
          subst (IsTaken inverse FitsInverse (code ∷ bytes)) (some_is found x c.2)
          (call_takes code bytes c.0 (IsBytes-rest code bytes f) c.1)
    ]

inverse_again : (o : Option Call) (rest : List ℕ) → FitsInverse o →
    inverse_in (inverse o ++ rest) ≡ Some (o, rest)
unfolding inverse_in call_in call_behind keyed_call_behind
inverse_again None rest fits = refl
inverse_again (Some (Call.Contains x)) rest fits = rw (number_again 8 x rest fits) refl
inverse_again (Some (Call.SetAdd x)) rest fits = rw (number_again 8 x rest fits) refl
inverse_again (Some (Call.SetRemove x)) rest fits = rw (number_again 8 x rest fits) refl
inverse_again (Some (Call.Get k)) rest fits = rw (number_again 8 k rest fits) refl
inverse_again (Some (Call.Put k v)) rest fits =
    made_again Some (call_behind 5) ((number 8 k ++ value v) ++ rest) (Call.Put k v) rest
    (call_again (Call.Put k v) rest fits)
inverse_again (Some (Call.MapRemove k)) rest fits = rw (number_again 8 k rest fits) refl
inverse_again (Some (Call.Ceiling k)) rest fits = rw (number_again 8 k rest fits) refl
inverse_again (Some (Call.QueueAdd p g)) rest fits =
    made_again Some (call_behind 8) ((number 8 p ++ number 8 g) ++ rest) (Call.QueueAdd p g) rest
    (call_again (Call.QueueAdd p g) rest fits)
inverse_again (Some Call.Take) rest fits = refl
inverse_again (Some Call.Least) rest fits = refl
inverse_again (Some (Call.Pluck p g)) rest fits =
    made_again Some (call_behind 11) ((number 8 p ++ number 8 g) ++ rest) (Call.Pluck p g) rest
    (call_again (Call.Pluck p g) rest fits)
inverse_again (Some (Call.Bump n)) rest fits =
    rw (signed_again n rest fits, to_z-of_z w64 n fits) refl
inverse_again (Some Call.Read) rest fits = refl
inverse_again (Some Call.Draw) rest fits = refl
inverse_again (Some (Call.Release x)) rest fits = rw (number_again 8 x rest fits) refl
inverse_again (Some (Call.Free x)) rest fits = rw (number_again 8 x rest fits) refl
inverse_again (Some (Call.Spend n)) rest fits = rw (number_again 8 n rest fits) refl
inverse_again (Some Call.Level) rest fits = refl
inverse_again (Some (Call.Fill n)) rest fits = rw (number_again 8 n rest fits) refl
inverse_again (Some Call.Pick) rest fits = refl
inverse_again (Some (Call.QuotaSpend k n)) rest fits =
    made_again Some (call_behind 21) ((number 8 k ++ number 8 n) ++ rest) (Call.QuotaSpend k n) rest
    (call_again (Call.QuotaSpend k n) rest fits)
inverse_again (Some (Call.QuotaLevel k)) rest fits = rw (number_again 8 k rest fits) refl
inverse_again (Some (Call.QuotaFill k n)) rest fits =
    made_again Some (call_behind 23) ((number 8 k ++ number 8 n) ++ rest) (Call.QuotaFill k n) rest
    (call_again (Call.QuotaFill k n) rest fits)
inverse_again (Some (Call.Refund k n)) rest fits =
    made_again Some (call_behind 24) ((number 8 k ++ number 8 n) ++ rest) (Call.Refund k n) rest
    (call_again (Call.Refund k n) rest fits)

-- ---- the record of a call

called_takes : (bytes : List ℕ) (x : CallRecord × List ℕ) → IsBytes bytes →
    called_in bytes ≡ Some x → IsTaken called FitsCalled bytes x
unfolding called_in
called_takes bytes x f e =
    let n = bound (number_in 8 bytes) _ x e in
    let t1 = number_takes 8 bytes n.0 f n.1 in
    let b = bound (byte_in n.0.1) _ x n.2 in
    let t2 = byte_takes n.0.1 b.0 t1.0.rest_fits b.1 in
    let c = bound (call_in b.0.1) _ x b.2 in
    let t3 = call_in_takes b.0.1 c.0 t2.0.rest_fits c.1 in
    let r = bound (reply_in c.0.1) _ x c.2 in
    let t4 = reply_in_takes c.0.1 r.0 t3.0.rest_fits r.1 in
    let o = bound (inverse_in r.0.1) _ x r.2 in
    let t5 = inverse_takes r.0.1 o.0 t4.0.rest_fits o.1 in
    let found : CallRecord × List ℕ = (
      record {
        number = n.0.0;
        collection = b.0.0;
        call = c.0.0;
        reply = r.0.0;
        inverse = o.0.0;
      },
      o.0.1,
    ) in
    let d3 = Takes-then _ _ _ _ _ t1.0 (Takes-then _ _ _ _ _ t2.0 t3.0) in
    let d4 = Takes-then _ _ _ _ _ d3 t4.0 in
    let whole : Takes bytes (called found.0) o.0.1 = Takes-then _ _ _ _ _ d4 t5.0 in
    subst (IsTaken called FitsCalled bytes) (some_is found x o.2) (
      whole,
      record {
        number = t1.1;
        collection = t2.1;
        call = t3.1;
        reply = t4.1;
        inverse = t5.1;
      },
    )

pub called_again : (c : CallRecord) (rest : List ℕ) → FitsCalled c →
    called_in (called c ++ rest) ≡ Some (c, rest)
unfolding called_in
called_again c rest fits =
    let regrouped : called c ++ rest ≡ number 8 c.number ++
    (c.collection ∷ (call c.call ++ (reply c.reply ++ (inverse c.inverse ++ rest)))) =
    simp append_assoc in
    ap called_in regrouped
    ∙ rw (
      number_again 8 c.number (c.collection ∷
          (call c.call ++ (reply c.reply ++ (inverse c.inverse ++ rest)))) fits.number,
      call_again c.call (reply c.reply ++ (inverse c.inverse ++ rest)) fits.call,
      reply_again c.reply (inverse c.inverse ++ rest) fits.reply,
      inverse_again c.inverse rest fits.inverse,
    ) refl

pub called_reads : Reads called FitsCalled called_in
called_reads = record { takes = called_takes; again = called_again }

deferred_takes : (bytes : List ℕ) (x : LaterRecord × List ℕ) → IsBytes bytes →
    deferred_in bytes ≡ Some x → IsTaken deferred FitsDeferred bytes x
unfolding deferred_in
deferred_takes bytes x f e =
    let n = bound (number_in 8 bytes) _ x e in
    let t1 = number_takes 8 bytes n.0 f n.1 in
    let b = bound (byte_in n.0.1) _ x n.2 in
    let t2 = byte_takes n.0.1 b.0 t1.0.rest_fits b.1 in
    let c = bound (call_in b.0.1) _ x b.2 in
    let t3 = call_in_takes b.0.1 c.0 t2.0.rest_fits c.1 in
    let found : LaterRecord × List ℕ =
    (record { number = n.0.0; collection = b.0.0; call = c.0.0 }, c.0.1) in
    let whole : Takes bytes (deferred found.0) c.0.1 =
    Takes-then _ _ _ _ _ t1.0 (Takes-then _ _ _ _ _ t2.0 t3.0) in
    subst (IsTaken deferred FitsDeferred bytes) (some_is found x c.2)
    (whole, record { number = t1.1; collection = t2.1; call = t3.1 })

pub deferred_again : (l : LaterRecord) (rest : List ℕ) → FitsDeferred l →
    deferred_in (deferred l ++ rest) ≡ Some (l, rest)
unfolding deferred_in
deferred_again l rest fits =
    let regrouped : deferred l ++ rest ≡ number 8 l.number ++
    (l.collection ∷ (call l.call ++ rest)) = simp append_assoc in
    ap deferred_in regrouped ∙ rw (
      number_again 8 l.number (l.collection ∷ (call l.call ++ rest))
          fits.number,
      call_again l.call rest fits.call,
    ) refl

pub deferred_reads : Reads deferred FitsDeferred deferred_in
deferred_reads = record { takes = deferred_takes; again = deferred_again }
