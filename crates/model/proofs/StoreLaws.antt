-- Calls that store nothing: start, put, get, commit, abort, scan; and any call that is refused.
use Prim.Native.Nat.{ℕ}
use mathlib.Core.Path.{◌≡◌, refl}
use mathlib.Core.Bool.{Bool, true, false, cond}
use mathlib.Core.List.{List, [], ◌∷◌}
use lib.Dec.{eqb, ltb}
use lib.ListN.{length}
use Rattle.model.specs.Types.{Station}
use Rattle.model.specs.Kinds.{Kind}
use Rattle.model.specs.declared.Answer.{Answer}
use Rattle.model.specs.Stations.{live_at, is_held, place_of}
use Rattle.model.specs.Reading.{Choice, own, absent, nofit, version}
use Rattle.model.specs.Effects.{Effect, Row, says, refusals}
use Rattle.model.specs.Start.{start}
use Rattle.model.specs.Put.{put}
use Rattle.model.specs.Get.{answered, get}
use Rattle.model.specs.Commit.{commit}
use Rattle.model.specs.Abort.{abort}
use Rattle.model.specs.Scan.{slots_seen, lowest_broken, scanned, scan}
use Rattle.model.specs.Lives.{write_count}

unfoldable pub StoresNothing : Effect → Type 0
StoresNothing e = e.stores ≡ []

pub says-stores-nothing : (a : Answer) (st : Station) → StoresNothing (says a st)
unfolding StoresNothing says
says-stores-nothing a st = refl

cond-stores-nothing : (b : Bool) (x y : Effect) → StoresNothing x → StoresNothing y → StoresNothing (cond b x y)
cond-stores-nothing true x y p q = p
cond-stores-nothing false x y p q = q

-- over any list of rows
pub refusals-store-nothing : (rs : List Row) (st : Station) (e : Effect) → StoresNothing e → StoresNothing (refusals rs st e)
unfolding refusals
refusals-store-nothing [] st e q = q
refusals-store-nothing (r ∷ rs) st e q = cond-stores-nothing r.applies _ _ (says-stores-nothing _ st) (refusals-store-nothing rs st e q)

pub start-stores-nothing : (st : Station) (t : ℕ) → (start st t).stores ≡ []
unfolding StoresNothing start
start-stores-nothing st t = refusals-store-nothing _ st _ (says-stores-nothing _ _)

pub put-stores-nothing : (st : Station) (t k v : ℕ) → (put st t k v).stores ≡ []
unfolding StoresNothing put
put-stores-nothing st t k v = refusals-store-nothing _ st _ (says-stores-nothing _ _)

answered-stores-nothing : (st : Station) (s : List ℕ) (i k : ℕ) (ch : Choice) → StoresNothing (answered st s i k ch)
unfolding answered
answered-stores-nothing st s i k (own v) = says-stores-nothing _ _
answered-stores-nothing st s i k absent = says-stores-nothing _ _
answered-stores-nothing st s i k (nofit x) = says-stores-nothing _ _
answered-stores-nothing st s i k (version d) = says-stores-nothing _ _

pub get-stores-nothing : (st : Station) (s : List ℕ) (t k : ℕ) → (get st s t k).stores ≡ []
unfolding StoresNothing get
get-stores-nothing st s t k = refusals-store-nothing _ st _ (answered-stores-nothing st s _ k _)

pub commit-stores-nothing : (st : Station) (t c : ℕ) → (commit st t c).stores ≡ []
unfolding StoresNothing commit
commit-stores-nothing st t c =
    refusals-store-nothing _ st _ (cond-stores-nothing (is_held t st) _ _ (says-stores-nothing _ _)
    (cond-stores-nothing (eqb (write_count (live_at st (place_of t st))) 0) _ _ (says-stores-nothing _ _) (says-stores-nothing _ _)))

pub abort-stores-nothing : (st : Station) (t : ℕ) → (abort st t).stores ≡ []
unfolding StoresNothing abort
abort-stores-nothing st t = refusals-store-nothing _ st _ (says-stores-nothing _ _)

-- "It writes nothing."
pub scan-stores-nothing : (κ : Kind) (s : List ℕ) → (scan κ s).stores ≡ []
unfolding StoresNothing scan scanned
scan-stores-nothing κ s = refusals-store-nothing _ _ _ (cond-stores-nothing (ltb (lowest_broken (slots_seen κ s)) (length (slots_seen κ s))) _ _ (says-stores-nothing _ _) (says-stores-nothing _ _))
