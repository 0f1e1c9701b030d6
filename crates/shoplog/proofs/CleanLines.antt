-- A log is clean exactly when each line is one and nothing is wrong with it in its turn.
use Prim.Native.Nat.{ℕ, ◌+◌}
use mathlib.Core.Path.{◌≡◌, refl}
use mathlib.Core.List.{List, [], ◌∷◌, map}
use mathlib.Core.Option.{Option, some, none}
use lib.ListN.{length}
use native.Mathlib.Omega.{arith}
use Rattle.std.specs.Prelude.{Ok, Err}
use Rattle.shoplog.specs.declared.Fault.TheVariants as F
use Rattle.shoplog.specs.Findings.{Finding, Fine}
use Rattle.shoplog.specs.declared.Verdict.{Verdict}
use Rattle.shoplog.specs.declared.Verdict.TheVariants.{Clean, Bad, Refused}
use Rattle.shoplog.specs.Lines.{Line}
use Rattle.shoplog.specs.Verdicts.{finding_of}
use Rattle.shoplog.specs.Logs.{finding_at, line_verdict, or_else, with_line, verdict_from}
use Rattle.shoplog.specs.Claims.{above_from, above, AllFine, onto}

-- nothing is said of this line, nor of the others
both-clean : (v w : Verdict) → or_else v w ≡ Clean → (v ≡ Clean) × (w ≡ Clean)
unfolding or_else
both-clean Clean w h = (refl, h)
both-clean (Bad n) w h = absurd (let z : ◌≡◌ {A = ℕ} 0 1 = cc in omega arith)
both-clean (Refused c n) w h = absurd (let z : ◌≡◌ {A = ℕ} 0 1 = cc in omega arith)

pub finding-clean : (n : ℕ) (x : Finding) → finding_at n x ≡ Clean → x ≡ Fine
unfolding finding_at
finding-clean n (Ok u) h = refl
finding-clean n (Err F.Over) h = absurd (let z : ◌≡◌ {A = ℕ} 0 1 = cc in omega arith)
finding-clean n (Err F.Bad) h = absurd (let z : ◌≡◌ {A = ℕ} 0 1 = cc in omega arith)

clean-from : (ls : List Line) (n : ℕ) (xs : List (Option Line)) → verdict_from ls n xs ≡ Clean → AllFine ls
    → AllFine (above_from ls (length xs) xs) × (length (above_from ls (length xs) xs) ≡ length ls + length xs)
unfolding verdict_from line_verdict with_line above_from AllFine
clean-from ls n [] h f = (f, omega arith)
clean-from ls n (none ∷ xs) h f = absurd (let q = (both-clean (Refused 19 n) _ h).0 in let z : ◌≡◌ {A = ℕ} 0 1 = cc in omega arith)
clean-from ls n (some l ∷ xs) h f =
    let b = both-clean (finding_at n (finding_of ls l)) _ h in
    let r = clean-from (l ∷ ls) (n + 1) xs b.1 (finding-clean n _ b.0, f) in
    (r.0, omega (arith, r.1))

pub clean-fine : (xs : List (Option Line)) → verdict_from [] 1 xs ≡ Clean → AllFine (above (length xs) xs) × (length (above (length xs) xs) ≡ length xs)
unfolding AllFine
clean-fine xs h = let r = clean-from [] 1 xs h tt in (r.0, omega (arith, r.1))

-- ── the other way: lines from the first to the last, each fine below those before it ──
pub onto-fine : (ls xs : List Line) → AllFine (onto ls xs) → AllFine ls
unfolding onto AllFine
onto-fine ls [] f = f
onto-fine ls (x ∷ xs) f = (onto-fine (x ∷ ls) xs f).1

pub fine-from : (ls xs : List Line) (n : ℕ) → AllFine (onto ls xs) → verdict_from ls n (map some xs) ≡ Clean
unfolding onto verdict_from line_verdict with_line finding_at or_else AllFine
fine-from ls [] n f = refl
fine-from ls (x ∷ xs) n f = rw (onto-fine (x ∷ ls) xs f).0 (fine-from (x ∷ ls) xs (n + 1) f)

pub fine-verdict : (xs : List Line) → AllFine (onto [] xs) → verdict_from [] 1 (map some xs) ≡ Clean
fine-verdict xs f = fine-from [] xs 1 f

-- the lines above the end of a log are all its lines
pub above-onto : (ls xs : List Line) → above_from ls (length xs) (map some xs) ≡ onto ls xs
unfolding above_from with_line onto
above-onto ls [] = refl
above-onto ls (x ∷ xs) = above-onto (x ∷ ls) xs
