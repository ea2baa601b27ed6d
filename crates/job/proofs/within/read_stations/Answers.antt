-- `job::within::read_stations` meets its contract: one law for every width. Assumes nothing.
use Rattle.std.proofs.Common.{ℕ, ◌+◌, ◌/◌, ◌<◌, arith, refl, sym, ◌∙◌, get_or}
use Rattle.number.specs.Word.{word_number}
use Rattle.number.proofs.WordLaws.{parted, number_under, word_bytes, long_bytes}
use Rattle.job.proofs.UsualLaws.{both, two_stations}
use Rattle.job.proofs.within.read_stations.Goals as goal

pub returns-then-start-ge-LEAST_OF_FOUR : goal.returns-then-start-ge-LEAST_OF_FOUR
returns-then-start-ge-LEAST_OF_FOUR c =
    let a = c.args in
    let byte : (i : ℕ) → get_or a.s.now i 0 < 256 = λ i. omega (arith, c.type_inv.s i) in
    let lies = c.long_word-w.ensures ∙ long_bytes a.s.now byte a.at in
    let x = c.long_word-w.result in
    let made = parted 4294967296 (word_number 3 x) (word_number 3 (x / 4294967296)) c.fours-both.ensures (omega (arith, number_under 3 x)) in
    let tops = both _ _ c.if-is_number.true in
    two_stations a.s.now byte 3 4 4 a.at a.at (omega arith) (omega arith) (omega arith) (omega (arith, c.requires)) lies lies (omega arith)
    (sym c.is_number.ensures ∙ tops.0) (sym c.is_number-2.ensures ∙ tops.1) made.0 made.1 c.if-start-ge-LEAST_OF_FOUR.true

pub returns-then-start-ge-LEAST_OF_FIVE : goal.returns-then-start-ge-LEAST_OF_FIVE
returns-then-start-ge-LEAST_OF_FIVE c =
    let a = c.args in
    let byte : (i : ℕ) → get_or a.s.now i 0 < 256 = λ i. omega (arith, c.type_inv.s i) in
    two_stations a.s.now byte 4 0 8 a.at (a.at + 5) (omega arith) (omega arith) (omega arith) (omega (arith, c.requires))
    (c.long_word-w.ensures ∙ long_bytes a.s.now byte a.at) (c.long_word-v.ensures ∙ long_bytes a.s.now byte (a.at + 5)) refl
    (sym c.is_number-else-is_number.ensures ∙ c.if-is_number-2.true) (sym c.is_number-then-is_number-2.ensures ∙ c.if-is_number-3.true)
    c.of_five-start.ensures.0 c.of_five.ensures.0 c.if-start-ge-LEAST_OF_FIVE.true

pub returns-then-start-ge-LEAST_OF_THREE : goal.returns-then-start-ge-LEAST_OF_THREE
returns-then-start-ge-LEAST_OF_THREE c =
    let a = c.args in
    let byte : (i : ℕ) → get_or a.s.now i 0 < 256 = λ i. omega (arith, c.type_inv.s i) in
    two_stations a.s.now byte 2 0 4 a.at (a.at + 3) (omega arith) (omega arith) (omega arith) (omega (arith, c.requires))
    (c.long_word-w.ensures ∙ long_bytes a.s.now byte a.at) (c.word-v.ensures.0 ∙ word_bytes a.s.now byte (a.at + 3)) refl
    (sym c.is_number-else-is_number-2.ensures ∙ c.if-is_number-4.true) (sym c.is_number-then-is_number-4.ensures ∙ c.if-is_number-5.true)
    c.of_three-start.ensures c.of_three.ensures c.if-start-ge-LEAST_OF_THREE.true

pub returns-then-start-ge-LEAST_OF_SIX : goal.returns-then-start-ge-LEAST_OF_SIX
returns-then-start-ge-LEAST_OF_SIX c =
    let a = c.args in
    let byte : (i : ℕ) → get_or a.s.now i 0 < 256 = λ i. omega (arith, c.type_inv.s i) in
    two_stations a.s.now byte 5 0 8 a.at (a.at + 6) (omega arith) (omega arith) (omega arith) (omega (arith, c.requires))
    (c.long_word-w.ensures ∙ long_bytes a.s.now byte a.at) (c.long_word-v-then-is_number-6.ensures ∙ long_bytes a.s.now byte (a.at + 6)) refl
    (sym c.is_number-else-is_number-4.ensures ∙ c.if-is_number-6.true) (sym c.is_number-then-is_number-6.ensures ∙ c.if-is_number-7.true)
    c.of_six-start.ensures c.of_six.ensures c.if-start-ge-LEAST_OF_SIX.true
