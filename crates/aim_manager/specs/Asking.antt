-- What may be asked of the book under the turn, and what it does.
-- Of the public clauses only those of `Keeper`, as what stands under the turn, cite it.
use Rattle.std.specs.Prelude.{◌≡◌, ℕ, ◌+◌, ◌<◌, ◌≤◌, ◌↔◌, Bool, List, [], ◌∷◌, ◌++◌, length, Result, IsErr, MatchResult, is_ok}
use Rattle.aim_messages.specs.declared.entries.Act.{Act}
use Rattle.aim_messages.specs.declared.entries.Act.TheVariants as act
use Rattle.aim_messages.specs.declared.entries.Order.{Order}
use Rattle.aim_messages.specs.declared.entries.Entry.{Entry}
use Rattle.aim_messages.specs.declared.entries.TheConstants.{LATEST_MOMENT, OPERATOR}
use Rattle.aim_messages.specs.declared.replies.Reply.{Reply}
use Rattle.aim_sheets.specs.Pools.{Stock}
use Rattle.aim_requests.specs.Requests.{Request, IsPreparedFor}
use Rattle.aim_book.specs.declared.book.Full.{Full}
use Rattle.aim_book.specs.Sheets.{sheets_kept}
use Rattle.aim_book.specs.State.{State}
use Rattle.aim_rules.specs.Answer.{answer}
use Rattle.aim_rules.specs.Legal.{IsOfLayout}
use Rattle.aim_manager.specs.declared.keeper.BookSetting.{BookSetting}
use Rattle.aim_manager.specs.declared.keeper.Ask.{Ask}
use Rattle.aim_manager.specs.declared.keeper.Ask.TheVariants as ask
use Rattle.aim_manager.specs.declared.keeper.Told.{Told}
use Rattle.aim_manager.specs.declared.keeper.Told.TheVariants as told

-- what no call changes of a book
abbrev pub setting_of : State → BookSetting
setting_of b = record { layout = b.layout; vehicles = b.vehicles; room = b.room }

-- whether the vehicle may have the message served, with this pool
pub record MayServe (s : BookSetting) (vehicle at : ℕ) (request : Request) (sheets : Stock) : Type 0 where
  pub known : vehicle < s.vehicles
  pub moment : at ≤ LATEST_MOMENT
  pub prepared : IsPreparedFor s.layout request
  pub count : sheets.count ≤ 1000000
  pub room : sheets.room ≡ s.layout.grid.spans

-- whether the caller may give the order
pub record MayOperate (s : BookSetting) (caller at : ℕ) (what : Order) : Type 0 where
  pub operator : caller ≡ OPERATOR
  pub moment : at ≤ LATEST_MOMENT
  pub order : IsOfLayout s.layout s.vehicles OPERATOR (act.Order what)

abbrev pub MayCall : BookSetting → ℕ → Ask → Type 0
MayCall s caller (ask.Serve moment prepared sheets) = MayServe s caller moment prepared sheets
MayCall s caller (ask.Operate moment order) = MayOperate s caller moment order

-- whether the answer tells of an entry
abbrev pub is_made : Told → Bool
is_made (told.Served result sheets) = is_ok result
is_made (told.Operated result) = is_ok result

-- what the caller's act at the moment does to the journal: its entry comes to it, with the answer as the reply, or there
-- is no room for it
pub record Acts (s : BookSetting) (caller at : ℕ) (what : Act) (before after : List Entry) (result : Result Reply Full) : Type 0 where
  pub full : IsErr result ↔ (length before ≡ s.room)
  pub done : MatchResult result
      (λ reply. (reply ≡ answer s.layout before caller at what) × (after ≡ before ++ (record { caller = caller; moment = at; act = what; reply = reply }) ∷ []))
      (λ _. after ≡ before)

-- the sheets that aren't kept for the vehicle come into the pool, the two of the request and the one that was kept before
pub record ComeBack (vehicle : ℕ) (before after : List Entry) (lent back : Stock) : Type 0 where
  pub count : back.count + sheets_kept vehicle after ≡ lent.count + sheets_kept vehicle before + 2
  pub room : back.room ≡ lent.room

-- What a call does: the journal before it, the journal after it, and its answer. An answer of the other kind never comes.
abbrev pub Does : BookSetting → ℕ → Ask → List Entry → List Entry → Told → Type 0
Does s caller (ask.Serve moment prepared sheets) before after (told.Served result back) =
    Acts s caller moment (act.Message prepared.message) before after result × ComeBack caller before after sheets back
Does s caller (ask.Operate moment order) before after (told.Operated result) = Acts s caller moment (act.Order order) before after result
Does s caller _ before after _ = ⊥
