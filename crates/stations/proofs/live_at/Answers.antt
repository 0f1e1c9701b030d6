use mathlib.Core.Path.{◌≡◌, sym, ap, ◌∙◌}
use lib.ListN.{length, get_or}
use native.Mathlib.Omega.{arith}
use borrow.Author.Rules.{rules}
use Rattle.model.specs.Stations.{live_at}
use Rattle.model.specs.Lives.{live_beyond}
use Rattle.model.specs.Listed.{listed_lives}
use Rattle.model.proofs.ListedLaws.{zero_live, lives_at}
use Rattle.stations.proofs.live_at.Goals as goal

pub returns-then-i-place : goal.returns-then-i-place
unfolding live_at
returns-then-i-place c =
    let z : length c.args.live ≡ 8 = search rules in
    sym (lives_at c.args.live _ (omega (arith, z)) live_beyond zero_live) ∙ ap (λ i. get_or (listed_lives c.args.live) i live_beyond) c.if-i-place.true

pub returns : goal.returns
unfolding live_at
returns c =
    let q : 7 ≡ c.args.place = omega arith in
    let z : length c.args.live ≡ 8 = search rules in
    sym (lives_at c.args.live 7 (omega (arith, z)) live_beyond zero_live) ∙ ap (λ i. get_or (listed_lives c.args.live) i live_beyond) q
