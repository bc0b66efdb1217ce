-- The calls that the lines of a script write.
use Rattle.std.specs.Prelude.{ℕ, cond, List, [], ◌∷◌, map, Some, None, Option, Result, ◌==◌}
use Rattle.calls.specs.declared.call.Call.{Call}
use Rattle.calls.specs.declared.call.Call.TheVariants.{Start, Load, Store, Add, Exchange, Serve, Deliver, Tick, Evict, Forget}
use Rattle.calls.specs.Letters.{protocol_of}
use Rattle.calls.specs.declared.refusal.Refusal.{Refusal}
use Rattle.calls.specs.declared.refusal.Refusal.TheVariants.{NotACall}
use Rattle.std.specs.Option.{option_map, ok_or}
use Rattle.script.specs.Fields.{split, bind, first, others, next, end, one, two, three, four}

-- the letter that a field is: a field of one byte
abbrev pub letter_of : List ℕ → Option ℕ
letter_of [] = None
letter_of (b ∷ []) = Some b
letter_of (b ∷ c ∷ bs) = None

-- N cores P
abbrev pub start_of : List (List ℕ) → Option Call
start_of fs = next fs (λ cores fs. bind (bind (letter_of (first fs)) protocol_of) (λ p. end (Start cores p) (others fs)))

-- L core wave address
abbrev pub load_of : List (List ℕ) → Option Call
load_of fs = option_map (λ f. Load f.0 f.1 f.2) (three fs)

-- S core wave address value
abbrev pub store_of : List (List ℕ) → Option Call
store_of fs = option_map (λ f. Store f.0 f.1 f.2 f.3) (four fs)

-- A core wave address value
abbrev pub add_of : List (List ℕ) → Option Call
add_of fs = option_map (λ f. Add f.0 f.1 f.2 f.3) (four fs)

-- X core wave address value
abbrev pub exchange_of : List (List ℕ) → Option Call
exchange_of fs = option_map (λ f. Exchange f.0 f.1 f.2 f.3) (four fs)

-- V core
abbrev pub serve_of : List (List ℕ) → Option Call
serve_of fs = option_map (λ core. Serve core) (one fs)

-- D core
abbrev pub deliver_of : List (List ℕ) → Option Call
deliver_of fs = option_map (λ core. Deliver core) (one fs)

-- E address
abbrev pub evict_of : List (List ℕ) → Option Call
evict_of fs = option_map (λ a. Evict a) (one fs)

-- K core address
abbrev pub forget_of : List (List ℕ) → Option Call
forget_of fs = option_map (λ f. Forget f.0 f.1) (two fs)

-- V, D, T, E or K
abbrev pub other_call_of : ℕ → List (List ℕ) → Option Call
other_call_of l fs =
    cond (l == 86) (serve_of fs)
    (cond (l == 68) (deliver_of fs)
    (cond (l == 84) (end Tick fs)
    (cond (l == 69) (evict_of fs)
    (cond (l == 75) (forget_of fs)
    None))))

-- the call of the letter l with the fields fs: N, L, S, A, X or another
abbrev pub call_of : ℕ → List (List ℕ) → Option Call
call_of l fs =
    cond (l == 78) (start_of fs)
    (cond (l == 76) (load_of fs)
    (cond (l == 83) (store_of fs)
    (cond (l == 65) (add_of fs)
    (cond (l == 88) (exchange_of fs)
    (other_call_of l fs)))))

-- the call that a line writes, by the fields between its blanks
abbrev pub parse_line : List ℕ → Option Call
parse_line line = bind (letter_of (first (split 32 line))) (λ l. call_of l (others (split 32 line)))

-- how many bytes of an input are read: 64 KiB
abbrev pub input_bytes : ℕ
input_bytes = 65536

-- what follows the last byte 10: a line that is no call, where it is not empty
abbrev pub remainder : List ℕ → List (Option Call)
remainder [] = []
remainder (b ∷ bs) = None ∷ []

-- the calls of the lines, of which the last lacks its byte 10
abbrev pub calls_of : List (List ℕ) → List (Option Call)
calls_of [] = []
calls_of (line ∷ []) = remainder line
calls_of (line ∷ after ∷ more) = parse_line line ∷ calls_of (after ∷ more)

-- the lines of a script, each as the call that it writes
abbrev pub script : List ℕ → List (Option Call)
script bytes = calls_of (split 10 bytes)

-- the same as a reader gives them: a line that is no call is refused (16)
abbrev pub script_calls : List ℕ → List (Result Call Refusal)
script_calls bytes = map (λ l. ok_or l NotACall) (script bytes)
