-- The formats of a store: how long a value may be, and how large an area.
use Rattle.std.specs.Prelude.{ℕ, ◌^◌}
use Rattle.calls.specs.declared.format.Format.{Format}

abbrev pub number_of : Format → ℕ
number_of Format.One = 1
number_of Format.Two = 2

-- the most bytes of a value in an area of the format
abbrev pub max_value : Format → ℕ
max_value Format.One = 256
max_value Format.Two = 1024

-- the format with the longest values
abbrev pub widest : Format
widest = Format.Two

-- the most bytes of an area of a disk of the format
abbrev pub max_area : Format → ℕ
max_area Format.One = 2 ^ 30
max_area Format.Two = 2 ^ 36

-- A disk of the first format may have an area of the second one.
abbrev pub Allows : (disk area : Format) → Type 0
Allows Format.One area = Unit {0}
Allows Format.Two Format.Two = Unit {0}
Allows Format.Two Format.One = ⊥
