-- A part of a log has no more tickets, keys written or keys read than the whole, so that no line of a log within the limits is over them.
use Prim.Native.Nat.{ℕ, ◌≤◌}
use mathlib.Core.Path.{◌≡◌, refl, subst}
use mathlib.Core.Bool.{false, not}
use mathlib.Core.List.Memᴰ
use mathlib.Core.List.{List, [], ◌∷◌, Memᴰ}
use lib.ListN.{length}
use native.Mathlib.Nat.{lt_irrefl}
use native.Mathlib.Omega.{arith}
use borrow.Author.Tests.{not-true, leb-true}
use Rattle.model.specs.declared.Read.{Read}
use Rattle.model.specs.Lists.{◌or◌}
use Rattle.model.proofs.Tests.{and_left, and_right, or-none}
use Rattle.shoplog.specs.Lines.{Line, write, commit, read}
use Rattle.shoplog.specs.Verdicts.{gathered, actor_in, written_in, read_in, actors, write_set, read_set, keys_read, once, one_too_many, ticket_limit, keys_written_limit, keys_read_limit, is_over}
use Rattle.shoplog.specs.Claims.{AllFine}
use Rattle.shoplog.proofs.FineLaws.{good-fine}
use Rattle.shoplog.proofs.GatheredLaws.{mem-gathered, gathered-mem, written-own, read-own}
use Rattle.ourlog.specs.OurLog.{KeepsLimits}
use Rattle.ourlog.proofs.Lines.{NoneBad}
use Rattle.ourlog.proofs.Findings.{refuted}
use Rattle.shoplog.proofs.OnceLaws.{once-new}
use Rattle.ourlog.proofs.Counting.{once-most}

-- one more of a part is not too many, where the whole is not
within : (most n : ℕ) (ns ws : List ℕ) → ((m : ℕ) → Memᴰ m (n ∷ ns) → Memᴰ m ws) → length (once ws) ≤ most → one_too_many most n ns ≡ false
unfolding one_too_many
within most n ns ws f o = refuted _ (λ h.
    let few = once-most (n ∷ ns) ws f in
    lt_irrefl most (omega (arith, o, few, once-new n ns (not-true _ (and_left _ _ h)), leb-true most (length (once ns)) (and_right _ _ h))))

-- ── of lines ──
gathered-part : {A : Type 0} (f : Line → List A) (ls ws : List Line) → ((l : Line) → Memᴰ l ls → Memᴰ l ws) → (x : A) → Memᴰ x (gathered f ls) → Memᴰ x (gathered f ws)
gathered-part f ls ws sub x m = let r = gathered-mem f ls x m in mem-gathered f ws r.0 x (sub r.0 r.1) r.2

module _ (ws : List Line) (k : KeepsLimits ws) where
  not-over : (l : Line) (ls : List Line) → ((x : Line) → Memᴰ x (l ∷ ls) → Memᴰ x ws) → is_over ls l ≡ false
  unfolding is_over actors write_set read_set keys_read gathered actor_in
  not-over (write t x) ls sub = or-none _ _
      (within ticket_limit t (actors ls) (actors ws) (gathered-part actor_in (write t x ∷ ls) ws sub) k.tickets)
      (within keys_written_limit x (write_set t ls) (write_set t ws) (λ m h. gathered-part (written_in t) (write t x ∷ ls) ws sub m (rw (written-own t x) h)) (k.writes t))
  not-over (commit t c) ls sub = refl
  not-over (read t x i) ls sub = or-none _ _
      (within ticket_limit t (actors ls) (actors ws) (gathered-part actor_in (read t x i ∷ ls) ws sub) k.tickets)
      (within keys_read_limit x (keys_read t ls) (keys_read t ws) (λ m h. keys-part m (rw (read-own t x i) h)) (k.reads t))
    where
      keys-part : (m : ℕ) → Memᴰ m (keys_read t (read t x i ∷ ls)) → Memᴰ m (keys_read t ws)
      keys-part m h = let r = Memᴰ.of_map (λ (r : Read). r.key) (read_set t (read t x i ∷ ls)) h in subst (λ (n : ℕ). Memᴰ n (keys_read t ws)) r.2 (Memᴰ.map (λ (r : Read). r.key) (gathered-part (read_in t) (read t x i ∷ ls) ws sub r.0 r.1))

  pub within-limits : (ls : List Line) → ((x : Line) → Memᴰ x ls → Memᴰ x ws) → NoneBad ls → AllFine ls
  unfolding AllFine NoneBad
  within-limits [] sub g = tt
  within-limits (l ∷ ls) sub g = (good-fine ls l (not-over l ls sub) g.0, within-limits ls (λ x m. sub x (Memᴰ.tail m)) g.1)
