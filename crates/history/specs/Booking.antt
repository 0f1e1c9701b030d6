-- 02 §3: "The booking just made is the one read.": the words of the theorem `booking-just-made`.
use Rattle.std.specs.Prelude.{ℕ, ◌≡◌, ◌⊎◌}
use mathlib.Core.List.{List, ◌∷◌, ◌++◌, Memᴰ}
use Rattle.std.proofs.Math.Option.{some, none}
use Rattle.model.specs.declared.Id.{Id}
use Rattle.model.specs.declared.Read.{Read}
use Rattle.model.specs.Types.{Station}
use Rattle.model.specs.declared.Answer.{Answer}
use Rattle.model.specs.declared.Answer.TheVariants as A
use Rattle.model.specs.Kinds.{Kind}
use Rattle.model.specs.Ranges.{Every}
use Rattle.model.specs.Calls.{Call, Start, Commit, Step, does}
use Rattle.history.specs.Ledger.{Draft, Committed, Ledger, draft_of, committed_of}
use Rattle.history.specs.Histories.{Event, called, running, World, begin, run, call_in}

-- the call is answered so by the station that runs
abbrev pub Answers : World → Call → Answer → Type 0
Answers w c a = (st : Station) × (w.node ≡ running st) × ((does c st w.store).answer ≡ a)

-- a transaction with this id has closed by then: it is past, or its draft has the clock (one that has none yet has 0, which is no id's)
abbrev pub HasClosed : Ledger → Id → Type 0
HasClosed b i = ((j : Committed) × Memᴰ j b.past × (j.id ≡ i)) ⊎ ((p : Draft) × Memᴰ p b.drafts × ((committed_of p).id ≡ i))

-- a live transaction that wrote a key, with this value
abbrev pub Writes : World → ℕ → ℕ → ℕ → Type 0
Writes w t k v = (p : Draft) × (draft_of t w.ledger.drafts ≡ some p) × (p.values k ≡ some v)

-- one that is open, has read nothing and has not written the key
pub record FirstRead (w : World) (t k : ℕ) : Type 0 where
  pub draft : Draft
  pub live : draft_of t w.ledger.drafts ≡ some draft
  pub open-still : draft.clock ≡ 0
  pub unread : (r : Read) → Memᴰ r draft.reads → ⊥
  pub unwritten : draft.values k ≡ none

-- the call starts another transaction, or none
abbrev pub IsNoStart : ℕ → Call → Type 0
IsNoStart t c = c ≡ Start t → ⊥

-- events until transaction t's acknowledgement; until a transaction asks
abbrev pub until_acknowledged : List Event → ℕ → ℕ → List Event → List Event
until_acknowledged vs₀ t c vs₁ = vs₀ ++ (called (Commit t c) ∷ vs₁)

abbrev pub until_asked : List Event → ℕ → ℕ → List Event → List Event → List Event
until_asked vs₀ t c vs₁ vs₂ = until_acknowledged vs₀ t c vs₁ ++ (called (Step t) ∷ vs₂)

-- A history in which transaction t closes after vs₀, given the clock c; is acknowledged after vs₁, with the id i and the value v under key k; and
-- after vs₂ transaction u asks for k, whenever it was started.
pub record Booking (κ : Kind) (vs₀ vs₁ vs₂ : List Event) (t c u k v : ℕ) (i : Id) : Type 0 where
  pub slot : ℕ
  pub closes : Answers (run vs₀ (begin κ)) (Commit t c) (A.Closing slot)
  pub acknowledged : Answers (run (until_acknowledged vs₀ t c vs₁) (begin κ)) (Step t) (A.Done i)
  -- it is the transaction that closed there: after a cut its number may be started again, and close with another clock
  pub same : Every (λ (e : Event). IsNoStart t (call_in e)) vs₁
  pub wrote : Writes (run (until_acknowledged vs₀ t c vs₁) (begin κ)) t k v
  pub runs : (st : Station) × ((run (until_asked vs₀ t c vs₁ vs₂) (begin κ)).node ≡ running st)
  pub asks : FirstRead (run (until_asked vs₀ t c vs₁ vs₂) (begin κ)) u k
