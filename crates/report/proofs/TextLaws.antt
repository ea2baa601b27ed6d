-- Writing piece by piece: bytes one after the other, and numbers.
-- Assumes nothing.
use Prim.Native.Nat.{ℕ, ◌+◌, ◌-◌, ◌≤◌, ◌<◌}
use native.Mathlib.Omega.{arith}
use native.Mathlib.Numerals.{add-one}
use mathlib.Core.Path.{◌≡◌, refl, sym, ap, ◌∙◌}
use mathlib.Core.List.{List, [], ◌∷◌, ◌++◌, append_assoc, append-nil}
use lib.ListN.{length, take, drop, get_or, set, length-append, take-append-drop}
use lib.Seq.{take-suc}
use borrow.Rule.Slice.PartMut.{put_mid, Post-is}
use Rattle.number.specs.Number.{placed}
use Rattle.number.proofs.PlaceLaws.{placed_append, placed_fits, placed_length, placed_none, placed_sets}
use Rattle.report.specs.Text.{field, fields}
use Rattle.report.specs.Writing.{Written, Wrote}
use Rattle.report.specs.declared.text.Writer.{Writer}

-- Writing

pub written_none : (s : List ℕ) (at : ℕ) → Written s at [] at s
written_none s at = record { index = omega arith; memory = sym (placed_none s at) }

pub written_byte : (s : List ℕ) (at b : ℕ) → at + 1 ≤ length s → Written s at (b ∷ []) (at + 1) (set s at b)
written_byte s at b h = record { index = refl; memory = sym (placed_sets s at (b ∷ []) h) }

pub written_length : {s : List ℕ} {at : ℕ} {v : List ℕ} {next : ℕ} {t : List ℕ} → Written s at v next t → length t ≡ length s
written_length {s} {at} {v} w = ap length w.memory ∙ placed_length s at v

-- What is written behind what was written makes one writing.
pub written_more : {s : List ℕ} {at : ℕ} {v : List ℕ} {next : ℕ} {t : List ℕ} {w : List ℕ} {end : ℕ} {u : List ℕ} → Written s at v next t
    → Written t next w end u
    → at + length (v ++ w) ≤ length s → Written s at (v ++ w) end u
written_more {s} {at} {v} {next} {t} {w} {end} {u} first second room =
    let both = length-append v w in
    record {
      index = omega (arith, first.index, second.index);
      memory = second.memory ∙ rw (first.memory, first.index) (placed_append s at v w (omega arith));
    }

-- Where both pieces fit, the first one does.
pub first_fits : (at : ℕ) (v w : List ℕ) (n : ℕ) → at + length (v ++ w) ≤ n → at + length v ≤ n
first_fits at v w n room = omega (arith, length-append v w)

-- Behind what was written there is room for what is left.
pub written_room : {s : List ℕ} {at : ℕ} {v : List ℕ} {next : ℕ} {t : List ℕ} → Written s at v next t → (w : List ℕ) → at + length (v ++ w) ≤ length s
    → next + length w ≤ length t
written_room {s} {at} {v} first w room = omega (arith, first.index, written_length first, length-append v w)

-- Bytes copied into a part of the memory are placed there.
pub copied : (s : List ℕ) (at : ℕ) (w : List ℕ) → at + length w ≤ length s → put_mid at (at + length w - at) s w ≡ placed s at w
copied s at w h =
    ap (λ (l : List ℕ). take at s ++ (w ++ l)) (Post-is at (at + length w) s (omega arith)) ∙ sym (placed_fits s at w h)

-- The same of a writer.

pub wrote_none : (w : Writer) → Wrote w [] w
wrote_none w = record { same_memory = refl; written = written_none w.text.now w.at }

module _ {a b : Writer} {v : List ℕ} (first : Wrote a v b) (w : List ℕ) (room : a.at + length (v ++ w) ≤ length a.text.now) where
  pub wrote_more : {c : Writer} → Wrote b w c → Wrote a (v ++ w) c
  wrote_more second = record {
    same_memory = second.same_memory ∙ first.same_memory;
    written = written_more first.written second.written room;
  }

  pub wrote_room : b.at + length w ≤ length b.text.now
  wrote_room = written_room first.written w room

-- Fields

fields_append : (ns ms : List ℕ) → fields (ns ++ ms) ≡ fields ns ++ fields ms
unfolding fields
fields_append [] ms = refl
fields_append (n ∷ ns) ms = rw (fields_append ns ms) (sym (append_assoc (field n) (fields ns) (fields ms)))

fields_one : (n : ℕ) → fields (n ∷ []) ≡ field n
unfolding fields
fields_one n = rw append-nil

-- Numbers one after the other.
module _ (numbers : List ℕ) (i : ℕ) (more : i < length numbers) where
  pub fields_more : fields (take (i + 1) numbers) ≡ fields (take i numbers) ++ field (get_or numbers i 0)
  fields_more =
      rw (add-one i, take-suc numbers i 0 more, fields_append (take i numbers) (get_or numbers i 0 ∷ []), fields_one (get_or numbers i 0))

  pub fields_within : length (fields (take i numbers) ++ field (get_or numbers i 0)) ≤ length (fields numbers)
  fields_within =
      let first = take (i + 1) numbers in
      let rest = drop (i + 1) numbers in
      rw (← fields_more)
      (omega (arith, ap length (sym (fields_append first rest) ∙ ap fields (take-append-drop (i + 1) numbers)), length-append (fields first) (fields rest)))
