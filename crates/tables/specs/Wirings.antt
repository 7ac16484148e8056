-- A wiring as a function from card inputs to pins. Of a wiring for n inputs, only what it gives below n counts.
use Rattle.std.specs.Prelude.{◌≡◌, ℕ, ◌<◌, List, ◌≢◌, slice_index}

-- the pin of input i, in a list of pins
abbrev pub pin : List ℕ → ℕ → ℕ
pin pins i = slice_index pins i

-- no two of the first k inputs have the same pin
abbrev pub Apart : ℕ → (ℕ → ℕ) → Type 0
Apart k w = (i j : ℕ) → (i < k) × (j < k) × (w i ≡ w j) → i ≡ j

-- each of the first k inputs has a pin below n, and no pin is named twice
abbrev pub Placed : ℕ → ℕ → (ℕ → ℕ) → Type 0
Placed n k w = ((i : ℕ) → i < k → w i < n) × Apart k w

-- w is a wiring for n inputs
abbrev pub Wires : ℕ → (ℕ → ℕ) → Type 0
Wires n w = Placed n n w

-- π takes each pin of w back to its input
abbrev pub Inverse : ℕ → (ℕ → ℕ) → (ℕ → ℕ) → Type 0
Inverse n w π = ((i : ℕ) → i < n → π (w i) ≡ i) × ((j : ℕ) → j < n → (π j < n) × (w (π j) ≡ j))

-- v and w give the first k inputs the same pins
abbrev pub Alike : ℕ → (ℕ → ℕ) → (ℕ → ℕ) → Type 0
Alike k v w = (i : ℕ) → i < k → v i ≡ w i

-- v and w give some input another pin
abbrev pub Other : ℕ → (ℕ → ℕ) → (ℕ → ℕ) → Type 0
Other n v w = (i : ℕ) × (i < n) × (v i ≢ w i)

-- v comes before w in dictionary order: alike up to some input, and there v has the lower pin
abbrev pub Before : ℕ → (ℕ → ℕ) → (ℕ → ℕ) → Type 0
Before n v w = (k : ℕ) × (k < n) × Alike k v w × (v k < w k)
