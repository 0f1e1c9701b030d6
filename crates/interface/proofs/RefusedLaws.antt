-- "Station and store are handed back unaltered": a refused request that is no scan, and a request over an image that is no station's.
use Prim.Native.Nat.{ℕ}
use mathlib.Core.Path.{◌≡◌, refl}
use mathlib.Core.Logic.{◌≢◌}
use mathlib.Core.Bool.{Bool, false, cond, true≢false}
use mathlib.Core.List.{List, [], ◌∷◌}
use mathlib.Core.Option.{Option, some, none}
use lib.Dec.{eqb, ltb}
use Rattle.model.specs.Types.{Live, Station}
use Rattle.model.specs.declared.Phase.{Phase}
use Rattle.model.specs.declared.Answer.{Answer}
use Rattle.model.specs.declared.Answer.TheVariants as A
use Rattle.model.specs.Lives.{write_count, records_stored}
use Rattle.model.specs.Stations.{live_at, is_held, place_of}
use Rattle.model.specs.Reading.{Choice, own, absent, nofit, version}
use Rattle.model.specs.Effects.{Effect, Row, says, says_storing, refusals}
use Rattle.model.specs.Start.{start}
use Rattle.model.specs.Put.{put}
use Rattle.model.specs.Get.{answered, get}
use Rattle.model.specs.Commit.{commit}
use Rattle.model.specs.Step.{stepped, step}
use Rattle.model.specs.Abort.{abort}
use Rattle.model.specs.Collect.{collect}
use Rattle.model.specs.Sweep.{sweep}
use Rattle.model.specs.Calls.{Call, Start, Put, Get, Commit, Step, Abort, Collect, Scan, Sweep, does, is_scan}
use Rattle.model.specs.Answers.{refused_with}
use Rattle.model.proofs.RefusalLaws.{cond-rule}
use Rattle.sheet.specs.Sheets.{line_effect}
use Rattle.desk.specs.Acts.{asks_scan}

-- the station is the one given, and nothing is stored
pub record Unaltered (st : Station) (e : Effect) : Type 0 where
  pub station-same : e.station ≡ st
  pub none-stored : e.stores ≡ []

record Accepted (e : Effect) : Type 0 where
  accepts : refused_with e.answer ≡ 0

record Kept (st : Station) (e : Effect) : Type 0 where
  keeps : refused_with e.answer ≢ 0 → Unaltered st e

-- ── what stands after the rows is no refusal ──
got : (st : Station) (s : List ℕ) (i k : ℕ) (ch : Choice) → Accepted (answered st s i k ch)
unfolding answered says refused_with
got st s i k (own v) = record { accepts = refl }
got st s i k absent = record { accepts = refl }
got st s i k (nofit x) = record { accepts = refl }
got st s i k (version d) = record { accepts = refl }

either : (b c : Bool) (x y z : Effect) → Accepted x → Accepted y → Accepted z → Accepted (cond b x (cond c y z))
either b c x y z p q r = cond-rule Accepted b x (cond c y z) (λ _. p) (λ _. cond-rule Accepted c y z (λ _. q) (λ _. r))

said : (a : Answer) (st : Station) → refused_with a ≡ 0 → Accepted (says a st)
unfolding says
said a st h = record { accepts = h }

said-storing : (a : Answer) (st : Station) (d n : ℕ) (r : List ℕ) → refused_with a ≡ 0 → Accepted (says_storing a st d n r)
unfolding says_storing
said-storing a st d n r h = record { accepts = h }

stepped-on : (st : Station) (i : ℕ) (l : Live) (p : Phase) → Accepted (stepped st i l p)
unfolding stepped refused_with
stepped-on st i l p =
    either (ltb (records_stored p) (write_count l)) (eqb (records_stored p) (write_count l)) _ _ _ (said-storing _ _ _ _ _ refl) (said-storing _ _ _ _ _ refl) (said _ _ refl)

-- ── so only a row refuses ──
rows : (rs : List Row) (st : Station) (e : Effect) → Accepted e → Kept st (refusals rs st e)
unfolding refusals says
rows [] st e h = record { keeps = λ r. absurd (r h.accepts) }
rows (n ∷ rs) st e h = cond-rule (Kept st) n.applies _ _ (λ _. record { keeps = λ _. record { station-same = refl; none-stored = refl } }) (λ _. rows rs st e h)

call_kept : (c : Option Call) (st : Station) (s : List ℕ) → asks_scan c ≡ false → Kept st (line_effect c st s)
unfolding asks_scan is_scan line_effect does start put get commit step abort collect sweep refused_with
call_kept none st s n = unfold says in record { keeps = λ _. record { station-same = refl; none-stored = refl } }
call_kept (some (Start t)) st s n = rows _ st _ (said A.Started _ refl)
call_kept (some (Put t k v)) st s n = rows _ st _ (said A.Kept _ refl)
call_kept (some (Get t k)) st s n = rows _ st _ (got st s _ k _)
call_kept (some (Commit t c)) st s n = rows _ st _ (either (is_held t st) (eqb (write_count (live_at st (place_of t st))) 0) _ _ _ (said _ _ refl) (said _ _ refl) (said _ _ refl))
call_kept (some (Step t)) st s n = rows _ st _ (stepped-on st _ _ _)
call_kept (some (Abort t)) st s n = rows _ st _ (said A.Dropped _ refl)
call_kept (some (Collect d)) st s n = rows _ st _ (said-storing (A.Collected _) _ _ _ _ refl)
call_kept (some Scan) st s n = absurd (true≢false n)
call_kept (some (Sweep l)) st s n = rows _ st _ (record { accepts = refl })

pub refused-unaltered : (c : Option Call) (st : Station) (s : List ℕ) → asks_scan c ≡ false → refused_with (line_effect c st s).answer ≢ 0 → Unaltered st (line_effect c st s)
refused-unaltered c st s n = (call_kept c st s n).keeps
