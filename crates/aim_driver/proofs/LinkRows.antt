-- Worked rows: what a link delivers. The items a, b, c are 7, 8, 9.
use Rattle.std.proofs.Common.{◌≡◌, ℕ, [], ◌∷◌, Some, None, refl}
use Rattle.aim_driver.specs.declared.links.Fate.TheVariants as fate
use Rattle.aim_driver.specs.Links.{LinkModel, new_link, sent_on, delivered, after_delivery, under_way}

-- repeated, lost and delayed by 4
abbrev loaded : LinkModel ℕ
loaded = sent_on (sent_on (sent_on (new_link 1 (fate.Repeat ∷ fate.Lose ∷ fate.Delay 4 ∷ [])) 3 7) 3 8) 3 9

abbrev loaded4 : LinkModel ℕ
loaded4 = after_delivery loaded 4

abbrev loaded5 : LinkModel ℕ
loaded5 = after_delivery loaded4 5

abbrev loaded8 : LinkModel ℕ
loaded8 = after_delivery loaded5 8

pub not_before_the_lag : delivered loaded 3 ≡ None
not_before_the_lag = refl

pub the_first_time : delivered loaded 4 ≡ Some 7
the_first_time = refl

pub once_a_step : delivered loaded4 4 ≡ None
once_a_step = refl

pub the_second_time : delivered loaded4 5 ≡ Some 7
the_second_time = refl

pub not_a_third_time : delivered loaded5 5 ≡ None
not_a_third_time = refl

pub delayed : delivered loaded5 8 ≡ Some 9
delayed = refl

pub never_the_lost_one : delivered loaded8 1000 ≡ None
never_the_lost_one = refl

pub not_a_step_too_soon : delivered loaded5 7 ≡ None
not_a_step_too_soon = refl

pub three_under_way : under_way loaded ≡ 3
three_under_way = refl

pub none_under_way : under_way loaded8 ≡ 0
none_under_way = refl

-- of what comes at one step the first sent comes first, also where it is delayed
abbrev two_at_once : LinkModel ℕ
two_at_once = sent_on (sent_on (new_link 0 (fate.Delay 2 ∷ [])) 1 7) 3 8

pub the_delayed_one_first : delivered two_at_once 3 ≡ Some 7
the_delayed_one_first = refl

pub then_the_other : delivered (after_delivery two_at_once 3) 3 ≡ Some 8
then_the_other = refl

-- what is due sooner comes first, also where it was sent later and both are late
abbrev out_of_order : LinkModel ℕ
out_of_order = sent_on (sent_on (new_link 0 (fate.Delay 5 ∷ [])) 1 7) 3 8

pub the_sooner_one_first : delivered out_of_order 9 ≡ Some 8
the_sooner_one_first = refl

-- behind the fates all are delivered
abbrev behind : LinkModel ℕ
behind = sent_on (sent_on (new_link 0 (fate.Lose ∷ [])) 1 7) 1 8

pub behind_the_fates : delivered behind 1 ≡ Some 8
behind_the_fates = refl
