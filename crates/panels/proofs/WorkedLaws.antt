-- A worked run: panel lengths 4 and 6 for a run of 21.
-- Assumes nothing.
use mathlib.Core.Path.{◌≡◌, refl}
use mathlib.Core.List.{[], ◌∷◌}
use Rattle.base.specs.Choice.{some_of, all_of}
use Rattle.base.specs.Least.{next_multiple}
use Rattle.base.specs.Answer.{accepted}
use Rattle.panels.specs.Layout.{each_before, layouts, tried, total, covers, overrun, none, found, if_covering, best}
use Rattle.panels.specs.Panels.{greatest, divides_all, gcd, floor, panels_for}
use Rattle.panels.specs.Promised.{worked_lengths}

-- Of the first five layouts the fifth, none of 4 and four of 6, is the first to cover 21, by 3; the floor is 1, as both lengths are even.
pub five_tries : panels_for worked_lengths 21 5 ≡ accepted (record { best = found 3 (0 ∷ 4 ∷ []); tries = 5; floor = 1 })
unfolding each_before layouts tried total covers overrun if_covering best some_of all_of greatest divides_all gcd next_multiple floor panels_for
five_tries = refl

-- All 256: one of 4 and three of 6 make 22, the least there is.
pub all_tries : panels_for worked_lengths 21 65536 ≡ accepted (record { best = found 1 (1 ∷ 3 ∷ []); tries = 256; floor = 1 })
unfolding each_before layouts tried total covers overrun if_covering best some_of all_of greatest divides_all gcd next_multiple floor panels_for
all_tries = refl

-- Four tries reach 18: none covers, and tries and floor stand all the same.
pub none_covers : panels_for worked_lengths 21 4 ≡ accepted (record { best = none; tries = 4; floor = 1 })
unfolding each_before layouts tried total covers overrun if_covering best some_of all_of greatest divides_all gcd next_multiple floor panels_for
none_covers = refl
