use Prim.Native.Nat.{max}
use mathlib.Core.Path.{◌≡◌, sym, ap, ap₂, ◌∙◌}
use mathlib.Core.List.{map, map-map}
use borrow.Author.Rules.{rules}
use Rattle.std.proofs.lemmas.Iterator.{YieldsList-from_slice, YieldsList-from_map}
use Rattle.std.proofs.lemmas.Iterator.Consumers.{YieldsList-at, max_from_yields_List}
use Rattle.model.specs.Lists.{maximum}
use Rattle.model.specs.Listed.{listed_live, listed_lives, listed_entry, listed_entries}
use Rattle.model.specs.Clocks.{entry_clock, live_clock}
use Rattle.stations.proofs.Clocks.{greatest-is, maximum-append}
use Rattle.stations.proofs.greatest_clock.Goals as goal

held : (c : goal.After-max-3) → c.unwrap_or-held.result ≡ maximum (map entry_clock (listed_entries c.args.entries))
held c =
    let es = c.args.entries in
    greatest-is (map (λ e. entry_clock (listed_entry e)) es) _ _ c.unwrap_or-held.ensures
    (max_from_yields_List _ _ c.max.ensures.ran (YieldsList-from_map _ _ (YieldsList-at c.map.ensures.source (YieldsList-from_slice es cc)) c.map.ensures.closure (λ x r q k. search rules)))
    ∙ sym (ap maximum (map-map entry_clock listed_entry es))

closing : (c : goal.After-max-3) → c.unwrap_or-closing.result ≡ maximum (map live_clock (listed_lives c.args.live))
closing c =
    let ls = c.args.live in
    greatest-is (map (λ l. live_clock (listed_live l)) ls) _ _ c.unwrap_or-closing.ensures
    (max_from_yields_List _ _ c.max-2.ensures.ran (YieldsList-from_map _ _ (YieldsList-at c.map-2.ensures.source (YieldsList-from_slice ls cc)) c.map-2.ensures.closure (λ x r q k. search rules)))
    ∙ sym (ap maximum (map-map live_clock listed_live ls))

pub returns : goal.returns
returns c = c.max-3.ensures ∙ (ap₂ max (held c) (closing c) ∙ sym (maximum-append _ _))
