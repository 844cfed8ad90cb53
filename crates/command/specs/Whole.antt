-- What was put into a lent buffer.
use Rattle.std.specs.Prelude.{Option, IfSome, List, ℕ, ◌≡◌, ◌≤◌, length, take}

-- n bytes from the front lie within the buffer; the second part follows from the first
abbrev pub Counts : ℕ → List ℕ → Type 0
Counts n buffer = (n ≤ length buffer) × (n ≡ length (take n buffer))

-- the bytes that were read, if they were, lie within the buffer
abbrev pub Within : Option ℕ → List ℕ → Type 0
Within read buffer = IfSome read (λ n. Counts n buffer)
