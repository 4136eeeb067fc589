-- The number of each refusal.
use Rattle.std.specs.Prelude.{ℕ}
use Rattle.calls.specs.declared.refusal.Refusal.{Refusal}

abbrev pub number_of : Refusal → ℕ
number_of Refusal.BadName = 1
number_of Refusal.BadArg = 2
number_of Refusal.TooLong = 3
number_of Refusal.NoMemory = 4
number_of Refusal.NameTaken = 5
number_of Refusal.NoSuchCollection = 6
number_of Refusal.WrongKind = 7
number_of Refusal.TooManyCollections = 8
number_of (Refusal.Busy n) = 9
number_of Refusal.NoSuchTxn = 10
number_of Refusal.Falling = 11
number_of Refusal.TooManyLive = 12
number_of Refusal.TooManyCalls = 13
number_of Refusal.Backlog = 14
number_of Refusal.AlreadyGoing = 15
number_of Refusal.Worn = 16
number_of (Refusal.Damaged place) = 17
number_of Refusal.Full = 18
number_of Refusal.Fault = 19
number_of Refusal.Failed = 20
number_of Refusal.NotAStore = 21
number_of Refusal.NotNow = 22
number_of Refusal.Lost = 23
number_of Refusal.Unfinished = 24
number_of Refusal.AlreadyLive = 25
number_of Refusal.Imaging = 26
number_of Refusal.Outrun = 27
