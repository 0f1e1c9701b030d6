-- What a command's call hands back and leaves in the store, against what the request comes to.
use Prim.Native.Nat.{ℕ}
use mathlib.Core.Path.{◌≡◌, refl, sym, ap, ◌∙◌}
use mathlib.Core.Logic.{◌⊎◌, inl, inr}
use mathlib.Core.Bool.{Bool, true, false, not, true≢false}
use mathlib.Core.List.{List, [], ◌∷◌}
use mathlib.Core.Option.{Option, some, none}
use Rattle.model.specs.declared.Station as machine
use Rattle.model.specs.Types.{Station, Outcome}
use Rattle.model.specs.declared.Answer.TheVariants as A
use Rattle.model.specs.Lists.{◌or◌}
use Rattle.model.specs.Sound.{sound}
use Rattle.model.specs.Effects.{RecordWrite, Effect, stored, outcome_of, says, Row, ◌when◌, refusals, unsound}
use Rattle.model.specs.Start.{start}
use Rattle.model.specs.Put.{put}
use Rattle.model.specs.Get.{get}
use Rattle.model.specs.Commit.{commit}
use Rattle.model.specs.Step.{step}
use Rattle.model.specs.Abort.{abort}
use Rattle.model.specs.Collect.{collect}
use Rattle.model.specs.Scan.{scan}
use Rattle.model.specs.Sweep.{sweep}
use Rattle.model.specs.Calls.{Call, Start, Put, Get, Commit, Step, Abort, Collect, Scan, Sweep, does, is_scan, is_sweep}
use Rattle.model.proofs.RefusalLaws.{guard, hit}
use Rattle.model.proofs.SoundKept.{sound-kept, sound-scan}
use Rattle.model.proofs.StoreLaws.{scan-stores-nothing}
use Rattle.model.proofs.Tests.{or-intro-right}
use Rattle.stations.specs.declared.Change.{Change}
use Rattle.stations.specs.Changes.{IsChange}
use Rattle.stations.proofs.Changes.{as-effect}
use Rattle.sheet.specs.declared.Command.{Command}
use Rattle.sheet.specs.declared.Command.TheVariants as C
use Rattle.sheet.specs.Commands.{command_of}
use Rattle.sheet.specs.Sheets.{line_effect}
use Rattle.desk.specs.declared.Request.{Request}
use Rattle.desk.specs.Acts.{call_of, asks_scan, asks_sweep, effect_of, acted, kept}

-- ── a request made of a call, or of none ──
call-of-command : (c : Option Call) → call_of (command_of c) ≡ c
unfolding call_of command_of
call-of-command none = refl
call-of-command (some (Start t)) = refl
call-of-command (some (Put t k v)) = refl
call-of-command (some (Get t k)) = refl
call-of-command (some (Commit t c)) = refl
call-of-command (some (Step t)) = refl
call-of-command (some (Abort t)) = refl
call-of-command (some (Collect d)) = refl
call-of-command (some Scan) = refl
call-of-command (some (Sweep n)) = refl

module _ (q : Request) (x : Option Call) (e : q.command ≡ command_of x) where
  pub call-is : call_of q.command ≡ x
  call-is = ap call_of e ∙ call-of-command x

  module _ (st : Station) (s : List ℕ) where
    pub acted-is : acted st s q ≡ outcome_of (line_effect x st s)
    unfolding acted effect_of
    acted-is = ap (λ (y : Option Call). outcome_of (line_effect y st s)) call-is

    pub kept-is : kept st s q ≡ stored (line_effect x st s).stores s
    unfolding kept effect_of
    kept-is = ap (λ (y : Option Call). stored (line_effect y st s).stores s) call-is

-- ── a request that is a call, and one that is none: its effect, and the store afterwards ──
module _ (st : Station) (s : List ℕ) (q : Request) (c : Call) (e : call_of q.command ≡ some c) where
  is_call : does c st s ≡ effect_of st s q
  unfolding effect_of line_effect
  is_call = sym (ap (λ (x : Option Call). line_effect x st s) e)

  call_kept : (s' : List ℕ) → s' ≡ stored (does c st s).stores s → s' ≡ kept st s q
  unfolding kept
  call_kept s' k = k ∙ ap (λ (x : Effect). stored x.stores s) is_call

  quiet-kept : (does c st s).stores ≡ [] → s ≡ kept st s q
  unfolding stored
  quiet-kept z = call_kept s (sym (ap (λ (x : List RecordWrite). stored x s) z))

  -- so a call's change is the request's
  pub decides : (m : machine.Station) (ch : Change) → IsChange m (does c st s) ch → (s' : List ℕ) → s' ≡ stored (does c st s).stores s → IsChange m (effect_of st s q) ch × (s' ≡ kept st s q)
  decides m ch h s' k = (as-effect _ _ _ _ (sym is_call) h, call_kept s' k)

  -- that of one that stores nothing
  pub decides-quiet : (m : machine.Station) (ch : Change) → IsChange m (does c st s) ch → (does c st s).stores ≡ [] → IsChange m (effect_of st s q) ch × (s ≡ kept st s q)
  decides-quiet m ch h z = (as-effect _ _ _ _ (sym is_call) h, quiet-kept z)

module _ (st : Station) (s : List ℕ) (q : Request) (e : call_of q.command ≡ none) where
  is_none : says (A.Refused 19 0) st ≡ effect_of st s q
  unfolding effect_of line_effect
  is_none = sym (ap (λ (x : Option Call). line_effect x st s) e)

  none_kept : s ≡ kept st s q
  unfolding kept says stored
  none_kept = ap (λ (x : Effect). stored x.stores s) is_none

  pub decides_not : (m : machine.Station) (ch : Change) → IsChange m (says (A.Refused 19 0) st) ch → IsChange m (effect_of st s q) ch × (s ≡ kept st s q)
  decides_not m ch h = (as-effect _ _ _ _ (sym is_none) h, none_kept)

-- ── a scan, told by its kind ──
scan-only : (c : Call) → is_scan c ≡ true → c ≡ Scan
unfolding is_scan
scan-only (Start t) h = absurd (true≢false (sym h))
scan-only (Put t k v) h = absurd (true≢false (sym h))
scan-only (Get t k) h = absurd (true≢false (sym h))
scan-only (Commit t c) h = absurd (true≢false (sym h))
scan-only (Step t) h = absurd (true≢false (sym h))
scan-only (Abort t) h = absurd (true≢false (sym h))
scan-only (Collect d) h = absurd (true≢false (sym h))
scan-only Scan h = refl
scan-only (Sweep n) h = absurd (true≢false (sym h))

scan-asked : (c : Option Call) → asks_scan c ≡ true → c ≡ some Scan
unfolding asks_scan
scan-asked none h = absurd (true≢false (sym h))
scan-asked (some c) h = ap some (scan-only c h)

pub not_scan : (c : Command) → (c ≡ C.Cut → ⊥) → asks_scan (call_of c) ≡ false
unfolding call_of asks_scan is_scan
not_scan (C.Start t) h = refl
not_scan (C.Put t k v) h = refl
not_scan (C.Get t k) h = refl
not_scan (C.Commit t c) h = refl
not_scan (C.Step t) h = refl
not_scan (C.Abort t) h = refl
not_scan (C.Collect d) h = refl
not_scan C.Cut h = absurd (h refl)
not_scan C.Malformed h = refl
not_scan (C.Sweep n) h = refl

-- ── a sweep, told by its command ──
pub not-sweep : (c : Command) → ((n : ℕ) → c ≡ C.Sweep n → ⊥) → asks_sweep (call_of c) ≡ false
unfolding call_of asks_sweep is_sweep
not-sweep (C.Start t) h = refl
not-sweep (C.Put t k v) h = refl
not-sweep (C.Get t k) h = refl
not-sweep (C.Commit t c) h = refl
not-sweep (C.Step t) h = refl
not-sweep (C.Abort t) h = refl
not-sweep (C.Collect d) h = refl
not-sweep C.Cut h = refl
not-sweep C.Malformed h = refl
not-sweep (C.Sweep n) h = absurd (h n refl)

pub sweep-acts : (st : Station) (s : List ℕ) (q : Request) (n : ℕ) → q.command ≡ C.Sweep n → (o : Outcome) → o ≡ outcome_of (sweep st s n) → (s' : List ℕ) → s' ≡ stored (sweep st s n).stores s → (o ≡ acted st s q) × (s' ≡ kept st s q)
unfolding acted does call_of
sweep-acts st s q n c o e s' k =
    let j : call_of q.command ≡ some (Sweep n) = ap call_of c in
    (e ∙ ap outcome_of (is_call st s q (Sweep n) j), call_kept st s q (Sweep n) j s' k)

pub scan-acts : (st : Station) (s : List ℕ) (q : Request) → asks_scan (call_of q.command) ≡ true → (o : Outcome) → o ≡ outcome_of (scan st.kind s) → (o ≡ acted st s q) × (s ≡ kept st s q)
unfolding acted does
scan-acts st s q h o e =
    let k = scan-asked (call_of q.command) h in
    (e ∙ ap outcome_of (is_call st s q Scan k), quiet-kept st s q Scan k (scan-stores-nothing st.kind s))

-- ── a call but a scan, on a station that is not sound: row 1 or 2 ──
pub record Barred (st : Station) (e : Effect) : Type 0 where
  pub number : ℕ
  pub one-or-two : (number ≡ 1) ⊎ (number ≡ 2)
  pub refused-so : e ≡ says (A.Refused number 0) st

module _ (st : Station) (u : sound st ≡ false) where
  row-2 : (rs : List Row) (e : Effect) → Barred st (refusals (2 when unsound st ∷ rs) st e)
  unfolding unsound
  row-2 rs e = record { number = 2; one-or-two = inr refl; refused-so = hit 2 _ rs st e (ap not u) }

  row-1-2 : (b : Bool) (rs : List Row) (e : Effect) → Barred st (refusals (1 when b ∷ 2 when unsound st ∷ rs) st e)
  row-1-2 b rs e = guard (Barred st) 1 b _ st e (record { number = 1; one-or-two = inl refl; refused-so = refl }) λ h. row-2 rs e

  pub call-barred : (c : Call) (s : List ℕ) → is_scan c ≡ false → Barred st (does c st s)
  unfolding is_scan does start put get commit step abort collect sweep
  call-barred (Start t) s n = row-2 _ _
  call-barred (Put t k v) s n = row-2 _ _
  call-barred (Get t k) s n = row-1-2 _ _ _
  call-barred (Commit t c) s n = row-2 _ _
  call-barred (Step t) s n = row-1-2 _ _ _
  call-barred (Abort t) s n = row-2 _ _
  call-barred (Collect d) s n = row-1-2 _ _ _
  call-barred Scan s n = absurd (true≢false n)
  call-barred (Sweep l) s n = row-1-2 _ _ _

-- ── soundness: a scan's station is sound, and no other call alters what a test says ──
module _ (st : Station) (s : List ℕ) where
  scan-tested : (c : Call) → is_scan c ≡ true → sound (does c st s).station ≡ true
  unfolding does
  scan-tested c h = ap (λ (x : Call). sound (does x st s).station) (scan-only c h) ∙ sound-scan st.kind s

  call-tested : (c : Call) → is_scan c ≡ false → sound (does c st s).station ≡ sound st
  call-tested c n = by-test (sound st) refl
    where
      by-test : (b : Bool) → sound st ≡ b → sound (does c st s).station ≡ sound st
      by-test true h = sound-kept c st s h ∙ sym h
      by-test false h = unfold says in ap (λ (x : Effect). sound x.station) (call-barred st h c s n).refused-so

  effect-tested : (c : Option Call) → sound (line_effect c st s).station ≡ (asks_scan c or sound st)
  unfolding line_effect asks_scan says ◌or◌
  effect-tested none = refl
  effect-tested (some c) = by_kind (is_scan c) refl
    where
      by_kind : (b : Bool) → is_scan c ≡ b → sound (does c st s).station ≡ (is_scan c or sound st)
      by_kind true h = rw h (scan-tested c h)
      by_kind false h = rw h (call-tested c h)

  pub acted-tested : (q : Request) → sound (acted st s q).station ≡ (asks_scan (call_of q.command) or sound st)
  unfolding acted effect_of outcome_of
  acted-tested q = effect-tested (call_of q.command)

  pub acted-sound : (q : Request) → sound st ≡ true → sound (acted st s q).station ≡ true
  acted-sound q h = acted-tested q ∙ or-intro-right _ _ h
