-- Formats: which may follow which, and what is short in an earlier one.
use Rattle.std.proofs.Common.{◌≡◌, ℕ, ◌≤◌, length, get_or, refl, ap, arith}
use Rattle.calls.specs.declared.format.Format.{Format}
use Rattle.calls.specs.declared.call.Call.{Call}
use Rattle.calls.specs.declared.reply.Reply.{Reply}
use Rattle.calls.specs.Formats.{max_value, Allows}
use Rattle.calls.specs.Rules.{IsShort}
use Rattle.records.specs.Short.{IsShortReply}
use Rattle.replay.specs.Journals.{letters_of}

pub allows_self : (f : Format) → Allows f f
allows_self Format.One = tt
allows_self Format.Two = tt

pub allows_then : (f g h : Format) → Allows f g → Allows g h → Allows f h
allows_then Format.One g h a b = tt
allows_then Format.Two Format.Two h a b = b
allows_then Format.Two Format.One h a b = absurd a

-- A value that is short in a format is so in a later one.
pub value_later : (f g : Format) (n : ℕ) → Allows f g → n ≤ max_value f → n ≤ max_value g
value_later Format.One Format.One n later short = short
value_later Format.One Format.Two n later short = omega (arith, short)
value_later Format.Two Format.Two n later short = short
value_later Format.Two Format.One n later short = absurd later

pub short_later : (f g : Format) → Allows f g → (c : Call) → IsShort f c → IsShort g c
short_later f g later (Call.Put k v) short = value_later f g (length v) later short
short_later f g later c short = tt

pub reply_later : (f g : Format) → Allows f g → (r : Reply) → IsShortReply f r → IsShortReply g r
reply_later f g later (Reply.Value v) short = value_later f g (length v) later short
reply_later f g later (Reply.Entry k v) short = value_later f g (length v) later short
reply_later f g later r short = tt

-- The letters tell the version.
pub one_version : (v w : Format) → letters_of v ≡ letters_of w → v ≡ w
one_version Format.One Format.One e = refl
one_version Format.Two Format.Two e = refl
one_version Format.One Format.Two e =
    let differs : 49 ≡ 50 = ap (λ l. get_or l 7 0) e in absurd (omega (arith, differs))
one_version Format.Two Format.One e =
    let differs : 50 ≡ 49 = ap (λ l. get_or l 7 0) e in absurd (omega (arith, differs))
