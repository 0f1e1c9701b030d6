-- `resp::bulk_in` meets its contract.
use mathlib.Core.Path.{◌≡◌}
use mathlib.Core.List.{[], ◌∷◌}
use mathlib.Core.Option.{some}
use Rattle.lines.specs.Lines.{newline}
use Rattle.resp.specs.Streams.{line_end}
use Rattle.resp.specs.Inverse.{after}
use Rattle.resp.proofs.AfterLaws.{stripped-none, stripped-some}
use Rattle.resp.proofs.BulkLaws.{no-bulk, bulk-sizeless, bulk-lineless, bulk-short, bulk-open, bulk-whole}
use Rattle.resp.proofs.bulk_in.Goals.{In_ok-sized, In_ok-bytes, After-split_at}
use Rattle.resp.proofs.bulk_in.Goals as goal

-- the `$`, and the end of the length's line
dollar : (c : In_ok-sized) → after (36 ∷ []) c.args.s.now ≡ some c.in_ok-sized.sized.now
dollar c = stripped-some (36 ∷ []) _ _ c.strip_prefix.ensures.cases c.in_ok-sized.sized c.in_ok-sized.was

line : (c : In_ok-bytes) → after (newline ∷ []) c.in_ok-size.line.now ≡ some c.in_ok-bytes.bytes.now
line c = stripped-some (newline ∷ []) _ _ c.strip_prefix-2.ensures.cases c.in_ok-bytes.bytes c.in_ok-bytes.was

pub returns-in_err-sized : goal.returns-in_err-sized
returns-in_err-sized c = rw c.from_residual.ensures (no-bulk _ (stripped-none (36 ∷ []) _ _ c.strip_prefix.ensures.cases c.in_err-sized.was))

pub returns-in_err-size : goal.returns-in_err-size
returns-in_err-size c = rw c.from_residual-in_err-size.ensures (bulk-sizeless _ (dollar (goal.at.returns-in_err-size c).In_ok-sized) c.in_err-size.ensures)

pub returns-in_err-bytes : goal.returns-in_err-bytes
returns-in_err-bytes c =
    rw c.from_residual-in_err-bytes.ensures
    (bulk-lineless _ (dollar (goal.at.returns-in_err-bytes c).In_ok-sized) c.in_ok-size.ensures
    (stripped-none (newline ∷ []) _ _ c.strip_prefix-2.ensures.cases c.in_err-bytes.was))

pub returns-then-size-bytes : goal.returns-then-size-bytes
returns-then-size-bytes c =
    let p = goal.at.returns-then-size-bytes c in
    bulk-short _ (dollar p.In_ok-sized) c.in_ok-size.ensures (line p.In_ok-bytes) c.if-size-bytes.true

pub returns-in_err-rest : goal.returns-in_err-rest
unfolding line_end
returns-in_err-rest c =
    let p = goal.at.returns-in_err-rest c in
    rw c.from_residual-in_err-rest.ensures
    (bulk-open _ (dollar p.In_ok-sized) c.in_ok-size.ensures (line p.In_ok-bytes)
    (rw (← c.split_at.ensures.back) (stripped-none line_end _ _ c.strip_prefix-3.ensures.cases c.in_err-rest.was)))

pub returns : goal.returns
unfolding line_end
returns c =
    let p = goal.at.returns c in
    rw c.split_at.ensures.front
    (bulk-whole _ (dollar p.In_ok-sized) c.in_ok-size.ensures (line p.In_ok-bytes) c.in_ok-rest.rest.now
    (rw (← c.split_at.ensures.back) (stripped-some line_end _ _ c.strip_prefix-3.ensures.cases c.in_ok-rest.rest c.in_ok-rest.was)))
