-- Calls written as lines, and what reading them gives back.
use Rattle.std.specs.Prelude.{◌≡◌, ℕ, ◌^◌, ◌<◌, ◌≤◌, List, [], ◌∷◌, ◌++◌, map, length, Some, codes, decimal, Option}
use Rattle.calls.specs.declared.call.Call.{Call}
use Rattle.calls.specs.declared.call.Call.TheVariants.{Start, Load, Store, Add, Exchange, Serve, Deliver, Tick, Evict, Forget}
use Rattle.calls.specs.declared.call.Protocol.{Protocol}
use Rattle.calls.specs.declared.call.Protocol.TheVariants.{Strong, Weak}
use Rattle.std.specs.List.{AllByRecursion}
use Rattle.script.specs.Lines.{input_bytes, script}

-- the numbers of a call fit a word
abbrev pub FitsWords : Call → Type 0
FitsWords (Start cores p) = cores < 2 ^ 32
FitsWords (Load core wave address) = (core < 2 ^ 32) × (wave < 2 ^ 32) × (address < 2 ^ 32)
FitsWords (Store core wave address value) = (core < 2 ^ 32) × (wave < 2 ^ 32) × (address < 2 ^ 32) × (value < 2 ^ 32)
FitsWords (Add core wave address value) = (core < 2 ^ 32) × (wave < 2 ^ 32) × (address < 2 ^ 32) × (value < 2 ^ 32)
FitsWords (Exchange core wave address value) = (core < 2 ^ 32) × (wave < 2 ^ 32) × (address < 2 ^ 32) × (value < 2 ^ 32)
FitsWords (Serve core) = core < 2 ^ 32
FitsWords (Deliver core) = core < 2 ^ 32
FitsWords Tick = Unit {0}
FitsWords (Evict address) = address < 2 ^ 32
FitsWords (Forget core address) = (core < 2 ^ 32) × (address < 2 ^ 32)

abbrev pub sign : Protocol → List ℕ
sign Strong = codes "S"
sign Weak = codes "W"

-- the letter of a call: N, L, S, A, X, V, D, T, E or K
abbrev pub letter : Call → ℕ
letter (Start cores p) = 78
letter (Load core wave address) = 76
letter (Store core wave address value) = 83
letter (Add core wave address value) = 65
letter (Exchange core wave address value) = 88
letter (Serve core) = 86
letter (Deliver core) = 68
letter Tick = 84
letter (Evict address) = 69
letter (Forget core address) = 75

-- its further fields
abbrev pub fields : Call → List (List ℕ)
fields (Start cores p) = decimal cores ∷ sign p ∷ []
fields (Load core wave address) = decimal core ∷ decimal wave ∷ decimal address ∷ []
fields (Store core wave address value) = decimal core ∷ decimal wave ∷ decimal address ∷ decimal value ∷ []
fields (Add core wave address value) = decimal core ∷ decimal wave ∷ decimal address ∷ decimal value ∷ []
fields (Exchange core wave address value) = decimal core ∷ decimal wave ∷ decimal address ∷ decimal value ∷ []
fields (Serve core) = decimal core ∷ []
fields (Deliver core) = decimal core ∷ []
fields Tick = []
fields (Evict address) = decimal address ∷ []
fields (Forget core address) = decimal core ∷ decimal address ∷ []

-- a blank before each field
abbrev pub spaced : List (List ℕ) → List ℕ
spaced [] = []
spaced (f ∷ fs) = 32 ∷ (f ++ spaced fs)

-- a call as a line
abbrev pub written : Call → List ℕ
written c = letter c ∷ spaced (fields c)

-- calls as a script, each line with its byte 10
abbrev pub lines : List Call → List ℕ
lines [] = []
lines (c ∷ cs) = written c ++ (10 ∷ lines cs)

-- a line that writes a call is read as that call
abbrev pub Back : List ℕ → Option Call → Type 0
Back line r = (c : Call) → FitsWords c → line ≡ written c → r ≡ Some c

-- an input that writes calls has just those lines, where it is not longer than what is read of it
abbrev pub AllBack : List ℕ → List ℕ → Type 0
AllBack input read = (cs : List Call) → AllByRecursion FitsWords cs → input ≡ lines cs → length input ≤ input_bytes → script read ≡ map (λ c. Some c) cs
