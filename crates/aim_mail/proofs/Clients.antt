-- Clients that stay those of a mailbox.
use Rattle.std.proofs.Common.{◌≡◌, ℕ, zero, suc, List, [], ◌∷◌, ap, refl, sym, subst, ◌∙◌, arith, Option, Some, None}
use Rattle.std.specs.Prelude.{All, IfSome}
use mathlib.Core.Option.{some}
use lib.ListN.{get_elem?}
use Rattle.aim_requests.specs.Requests.{Request, IsPreparedFor}
use Rattle.aim_layout.specs.Intersection.{Intersection}
use Rattle.aim_mail.specs.declared.letter.MailSetting.{MailSetting}
use Rattle.aim_mail.specs.Calls.{Call, ClientModel, ServerModel, IsOfMail, IsSameClient}

pub same_refl : (c : ClientModel) → IsSameClient c c
same_refl c = record { asks_on = refl; hears_on = refl; setting = refl; vehicle = refl }

pub same_trans : (a b c : ClientModel) → IsSameClient a b → IsSameClient b c → IsSameClient a c
same_trans a b c f g = record { asks_on = g.asks_on ∙ f.asks_on; hears_on = g.hears_on ∙ f.hears_on; setting = g.setting ∙ f.setting; vehicle = g.vehicle ∙ f.vehicle }

-- a client after a call is the same client
pub same_called : (old new : ClientModel) (calls : List Call) (kept : ℕ) → new ≡ record old { calls = calls; kept = kept } → IsSameClient old new
same_called old new calls kept is = record { asks_on = ap (λ c. c.asks_on) is; hears_on = ap (λ c. c.hears_on) is; setting = ap (λ c. c.setting) is; vehicle = ap (λ c. c.vehicle) is }

-- a client of a mailbox stays one of it
pub of_same : (m : ServerModel) (a b : ClientModel) → IsOfMail m a → IsSameClient a b → IsOfMail m b
of_same m a b own same = record {
  asks_on = same.asks_on ∙ own.asks_on;
  hears_on = ap (get_elem? m.answers_on) same.vehicle ∙ own.hears_on ∙ ap some (sym same.hears_on);
  setting = same.setting ∙ own.setting;
}

-- a request that was prepared for the layout of a client's setting
pub prepared_if : (o : Option MailSetting) (i : Intersection) (p : Request) → IfSome o (λ s. s.layout ≡ i) → IsPreparedFor i p → IfSome o (λ s. IsPreparedFor s.layout p)
prepared_if None i p is prepared = tt
prepared_if (Some s) i p is prepared = subst (λ x. IsPreparedFor x p) (sym is) prepared

-- a pool that has the room of the layout of a client's setting
pub room_if_layout : (o : Option MailSetting) (i : Intersection) (n : ℕ) → IfSome o (λ s. s.layout ≡ i) → n ≡ i.grid.spans → IfSome o (λ s. n ≡ s.layout.grid.spans)
room_if_layout None i n is room = tt
room_if_layout (Some s) i n is room = room ∙ ap (λ x. x.grid.spans) (sym is)

module _ {A : Type 0} where
  pub all_one : (P : A → Type 0) (x : A) → P x → All P (x ∷ [])
  all_one P x p zero d less = p
  all_one P x p (suc k) d less = absurd (omega (arith, less))

  pub all_two : (P : A → Type 0) (x y : A) → P x → P y → All P (x ∷ y ∷ [])
  all_two P x y p q zero d less = p
  all_two P x y p q (suc zero) d less = q
  all_two P x y p q (suc (suc k)) d less = absurd (omega (arith, less))
