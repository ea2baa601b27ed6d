-- Laws of overlaps, for one range: the quantity is their sum, and how a walk over the runs makes it. A walk for many ranges makes one for each station.
-- Assumes nothing.
use Rattle.std.specs.Prelude.{if◌then◌else◌}
use Prim.Native.Nat.{ℕ, ◌+◌, ◌-◌, ◌≤◌, ◌<◌, min, max}
use native.Mathlib.Omega.{arith}
use native.Mathlib.Decide.{dec_le}
use mathlib.Core.Path.{◌≡◌, refl, ap, ◌∙◌}
use mathlib.Core.Bool.{Bool, true, false}
use mathlib.Core.List.{List, [], ◌∷◌}
use lib.ListN.{length}
use lib.Dec.{eqb}
use borrow.Author.Tests.{ne_eqb}
use Rattle.base.specs.Answer.{accepted}
use Rattle.number.specs.declared.Reading.{Reading}
use Rattle.runs.specs.declared.Stretch.{Stretch}
use Rattle.runs.specs.RunList.{shown_level, MayFollow, Rising}
use Rattle.runs.specs.Count.{count_from}
use Rattle.runs.proofs.RunLaws.{shown_nothing}
use Rattle.runs.proofs.CountLaws.{count_none, count_run}
use Rattle.schedule.specs.Schedule.{ReadRun}
use Rattle.queries.specs.Walk.{head_at, record_at, overlap, overlap_at, overlaps, overlap_sum}
use Rattle.queries.specs.Quantity.{millimetres}
use Rattle.queries.proofs.StepLaws.{walk_start, walk_passed, walk_over}
use Rattle.queries.specs.Visits.{Summed}

-- A quantity is the sum of the overlaps of the runs of that level.
count_overlaps : (e u : ℕ) (rs : List Stretch) → Rising e u rs → (v : ℕ) → 1 ≤ v → (p n : ℕ)
    → count_from (λ (t : ℕ). eqb (shown_level rs t) v) p n ≡ overlaps rs v p (p + n)
unfolding overlap overlaps
count_overlaps e u [] up v h p n =
    count_none (λ (t : ℕ). eqb (shown_level [] t) v) (λ t. ne_eqb (shown_level [] t) v (λ q. absurd (omega (arith, shown_nothing t)))) p n
count_overlaps e u (r ∷ rs) up v h p n =
    count_run e u r rs up (λ x. eqb x v) (ne_eqb 0 v (λ q. omega arith)) p n
    ∙ ap (λ (m : ℕ). overlap_at r v p (p + n) + m) (count_overlaps r.end r.level rs up.1 v h p n)

pub millimetres_overlaps : (rs : List Stretch) → Rising 0 0 rs → (v p q : ℕ) → 1 ≤ v → p ≤ q → millimetres (shown_level rs) v p q ≡ overlaps rs v p q
unfolding millimetres
millimetres_overlaps rs up v p q h l = count_overlaps 0 0 rs up v h p (q - p) ∙ ap (λ (x : ℕ). overlaps rs v p x) (let e : p + (q - p) ≡ q = omega arith in e)

-- What lies below q lies below p or between them: of one run, and of all.
overlap_between : (start end p q : ℕ) → p ≤ q → min p end - max 0 start + (min q end - max p start) ≡ min q end - max 0 start
overlap_between start end p q h = let low : max 0 start ≡ start = omega arith in rw low (go (dec_le p start))
  where
    go : Dec (p ≤ start) → min p end - start + (min q end - max p start) ≡ min q end - start
    go (yes l) = let from : max p start ≡ start = omega arith in rw from (omega arith)
    go (no l) = let from : max p start ≡ p = omega arith in rw from (omega arith)

pub overlaps_between : (rs : List Stretch) (v p q : ℕ) → p ≤ q → overlaps rs v 0 p + overlaps rs v p q ≡ overlaps rs v 0 q
unfolding overlap overlaps
overlaps_between [] v p q h = refl
overlaps_between (r ∷ rs) v p q h = go (eqb r.level v) (overlaps_between rs v p q h)
  where
    add : (x y z a b c : ℕ) → x + y ≡ z → a + b ≡ c → x + a + (y + b) ≡ z + c
    add x y z a b c e f = omega arith

    go : (b : Bool) → overlaps rs v 0 p + overlaps rs v p q ≡ overlaps rs v 0 q
        → (if b then min p r.end - max 0 r.start else 0) + overlaps rs v 0 p + ((if b then min q r.end - max p r.start else 0) + overlaps rs v p q)
        ≡ (if b then min q r.end - max 0 r.start else 0) + overlaps rs v 0 q
    go true rest = add _ _ _ _ _ _ (overlap_between r.start r.end p q h) rest
    go false rest = add 0 0 0 _ _ _ refl rest

-- A run that follows one which ended at e has no more millimetres than there are from there to its end.
pub overlap_most : (e u : ℕ) (r : Stretch) → MayFollow e u r → (v p q : ℕ) → e + overlap_at r v p q ≤ r.end
unfolding overlap
overlap_most e u r n v p q = go (eqb r.level v)
  where
    go : (b : Bool) → e + (if b then min q r.end - max p r.start else 0) ≤ r.end
    go true = omega (arith, n.after, n.long)
    go false = omega (arith, n.after, n.long)

-- Between two records, the overlaps are the sum so far and those of the runs from here on.
module _ (s : List ℕ) (v p q : ℕ) where
  pub summed_start : (sum : ℕ) (n : Reading) → sum ≡ 0 → head_at s ≡ accepted n → Summed s v p q sum n.value 0 0 n.next
  summed_start sum n none h = walk_start s n h (λ rs. overlaps rs v p q) (λ rs. sum + overlaps rs v p q) (λ rs e. omega arith)

  pub summed_turn : (sum sum' : ℕ) {k e last at : ℕ} (r : ReadRun) → Summed s v p q sum k e last at → 0 < k → record_at e last s at ≡ accepted r
      → sum' ≡ sum + overlap_at r.run v p q
      → Summed s v p q sum' (k - 1) r.run.end r.run.level r.next
  unfolding overlaps
  summed_turn sum sum' r w some read m = walk_passed w r (λ rs. sum' + overlaps rs v p q) some read (λ rs. omega arith)

  pub summed_over : {sum k e last at : ℕ} → Summed s v p q sum k e last at → k ≡ 0 → at ≡ length s → accepted sum ≡ overlap_sum s v p q
  unfolding overlap_sum overlaps
  summed_over {sum} w none over = ap accepted (let e : sum ≡ sum + 0 = omega arith in e) ∙ walk_over w none over
