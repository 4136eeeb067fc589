-- The limits of a store, as clauses name them.
use Rattle.std.specs.Prelude.{ℕ, ◌+◌, ◌^◌}

-- the most bytes of a name
abbrev pub max_name : ℕ
max_name = 64

-- the most collections of a store
abbrev pub max_collections : ℕ
max_collections = 256

-- the most live transactions
abbrev pub max_live : ℕ
max_live = 64

-- the most calls and laters of one transaction together
abbrev pub max_calls : ℕ
max_calls = 1024

-- the most records that wait for a block
abbrev pub max_pending : ℕ
max_pending = 16384

-- the most bytes of a block's body
abbrev pub max_body : ℕ
max_body = 65535

-- the fewest bytes of an area
abbrev pub min_area : ℕ
min_area = 65536

-- Numbers of transactions lie below it, and steps that wear a book are refused from it on.
abbrev pub number_end : ℕ
number_end = 2 ^ 61

-- the most wear of a book
abbrev pub max_wear : ℕ
max_wear = number_end + 65536

-- the most clients made in a store's life
abbrev pub max_clients : ℕ
max_clients = 65536
