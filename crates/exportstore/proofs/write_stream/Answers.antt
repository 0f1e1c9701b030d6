-- The stream lies in the target.
use Rattle.std.proofs.Common.{◌≡◌, ◌∙◌, ◌≤◌, ℕ, List, length, subst, sym}
use Rattle.std.specs.Prelude.{Result, Ok}
use Rattle.std.proofs.lemmas.List.{length-take-le}
use Rattle.resp.specs.declared.Refused.{Refused}
use Rattle.resp.specs.Exports.{export}
use Rattle.resp.proofs.ExportRows.{export-inside}
use Rattle.exportstore.proofs.write_stream.Goals as goal

inside : (s t u : List ℕ) (r : Result ℕ Refused) (n : ℕ) → (r ≡ (export s t).answer) × (u ≡ (export s t).target) → r ≡ Ok n → n ≤ length u
inside s t u r n h e = subst (λ (x : List ℕ). n ≤ length x) (sym h.1) (export-inside s t n (sym h.0 ∙ e))

pub slice_bounds-target-end : goal.slice_bounds-target-end
slice_bounds-target-end c = let e = c.export in inside _ _ e.new.target e.result _ e.ensures c.in_ok-n.was

pub slice_bounds-write_all-end : goal.slice_bounds-write_all-end
slice_bounds-write_all-end c =
    let e = c.export in
    sym (length-take-le _ e.new.target (inside _ _ e.new.target e.result _ e.ensures c.in_ok-n.was))
