-- Lists of bytes.
-- Assumes nothing.
use Prim.Native.Nat.{ℕ, zero, suc, ◌<◌}
use mathlib.Core.List.Memᴰ
use mathlib.Core.List.{List, [], ◌∷◌}
use lib.ListN.{drop, get_or}
use Rattle.base.proofs.ListLaws.{cons_each}
use Rattle.number.specs.Form.{Bytes}

no_bytes : Bytes []
no_bytes x m = absurd (Memᴰ.not-nil m)

pub tail_bytes : {x : ℕ} {xs : List ℕ} → Bytes (x ∷ xs) → Bytes xs
tail_bytes b z m = b z (Memᴰ.tail m)

pub drop_bytes : (at : ℕ) (s : List ℕ) → Bytes s → Bytes (drop at s)
drop_bytes zero s b = b
drop_bytes (suc at) [] b = b
drop_bytes (suc at) (x ∷ s) b = drop_bytes at s (tail_bytes b)

-- A list whose elements are bytes by index, as a slice's are.
pub index_bytes : (s : List ℕ) → ((i : ℕ) → get_or s i 0 < 256) → Bytes s
index_bytes [] h = no_bytes
index_bytes (y ∷ s) h = cons_each (λ x. x < 256) (h 0) (index_bytes s (λ i. h (suc i)))
