use Rattle.std.proofs.Common.{◌≡◌, List, Option, Some, None, sym, ap, ◌∙◌, arith}
use Rattle.std.proofs.lemmas.Grind.{common_steps}
use Rattle.std.specs.Option.{option_or}
use Rattle.sap_terms.specs.Choice.{Choice}
use Rattle.sap_macro.specs.Sources.{definitions}
use Rattle.sap_origin.specs.Definitions.{located_definitions}
use Rattle.sap_origin.specs.declared.origin.FileWord.{FileWord}
use Rattle.sap_uses.specs.Sizes.{HaveSizes}
use Rattle.sap_use_words.specs.code.Walk.{IsFound, IsInside, IsMet, IsThere, found_by, found_from}
use Rattle.sap_use_words.specs.WrittenUses.{LocatedUse}
use Rattle.sap_use_words.specs.declared.met.Met.TheVariants.{Two, Use}
use Rattle.sap_use_words.proofs.Walking.{found_or, found_same, if_ok}
use Rattle.sap_use_words.proofs.large.+large_in.Goals as goal

pub returns-in-Large-clause-found : goal.returns-in-Large-clause-found
returns-in-Large-clause-found t c = λ r h.
    let ds = located_definitions c.args.defs.now c.args.behind.now in
    let us = c.args.uses.now.items in
    let vs = c.met_at.new.uses.items in
    let zs = c.behind_uses.new.uses.items in
    let here = c.args.here in
    let e = c.in-Use.e in
    let met : IsMet ds (definitions c.args.defs.now) here.behind us here.source.now (Use e) vs = rw c.in-Use.is at c.in_ok-met_at.ensures.met in
    let there : IsThere (found_by ds vs r e) c.in-Large.word zs = rw c.in-Large.is at (c.in_ok-word-in-Use.ensures.reached r h) in
    found_same (found_from ds us r here) (found_by ds vs r e) (Some c.in-Large.word) zs (met.same r) there

pub returns-in-Body-clause-found : goal.returns-in-Body-clause-found
returns-in-Body-clause-found t c =
    let ds = located_definitions c.args.defs.now c.args.behind.now in
    let us = c.args.uses.now.items in
    let vs = c.met_at.new.uses.items in
    let zs = c.behind_uses.new.uses.items in
    let xs = c.large_in-in-Body.new.uses.items in
    let here = c.args.here in
    let e = c.in-Use.e in
    let p = c.in-Body.p in
    let inner = c.in-Body.inner in
    let met : IsMet ds (definitions c.args.defs.now) here.behind us here.source.now (Use e) vs = rw c.in-Use.is at c.in_ok-met_at.ensures.met in
    if_ok (λ (o : Option FileWord). (r : Choice) → HaveSizes r inner → IsFound (found_from ds zs r p) o xs)
    (λ (o : Option FileWord). (r : Choice) → HaveSizes r c.args.sizes.now → IsFound (found_from ds us r here) o xs) c.large_in-in-Body.result
    (λ o on r h.
    let inside : IsInside ds (found_by ds vs r e) inner p zs = rw c.in-Body.is at (c.in_ok-word-in-Use.ensures.reached r h) in
    found_same (found_from ds us r here) (found_from ds zs inside.choice p) o xs (met.same r ∙ inside.same) (on inside.choice inside.have))
    c.large_in-in-Body.ensures.found

pub returns-in-None-clause-found : goal.returns-in-None-clause-found
returns-in-None-clause-found t c =
    let ds = located_definitions c.args.defs.now c.args.behind.now in
    let us = c.args.uses.now.items in
    let vs = c.met_at.new.uses.items in
    let ws = c.large_in-in-Two.new.uses.items in
    let zs = c.truncate.new.self.items in
    let xs = c.large_in-in-None.new.uses.items in
    let here = c.args.here in
    let p = c.in-Two.p in
    let q = c.in-Two.q in
    let met : IsMet ds (definitions c.args.defs.now) here.behind us here.source.now (Two p q) vs = rw c.in-Two.is at c.in_ok-met_at.ensures.met in
    let cut = c.truncate.ensures.items in
    let count = c.len-depth.ensures in
    let front = c.in_ok-found-in-Two.ensures.front in
    let back : zs ≡ vs = grind (arith, common_steps, cut, count, front) in
    if_ok (λ (o : Option FileWord). (r : Choice) → HaveSizes r c.args.sizes.now → IsFound (found_from ds zs r q) o xs)
    (λ (o : Option FileWord). (r : Choice) → HaveSizes r c.args.sizes.now → IsFound (found_from ds us r here) o xs) c.large_in-in-None.result
    (λ o on r h.
    let none : found_from ds vs r p ≡ None = rw c.in-None.is at (c.in_ok-found-in-Two.ensures.found r h) in
    found_same (found_from ds us r here) (found_from ds zs r q) o xs
    (met.same r ∙ ap (λ (a : Option LocatedUse). option_or a (found_from ds vs r q)) none ∙ ap (λ (l : List FileWord). found_from ds l r q) (sym back)) (on r h))
    c.large_in-in-None.ensures.found

pub returns-in_default-clause-found : goal.returns-in_default-clause-found
returns-in_default-clause-found t c = λ r h.
    let ds = located_definitions c.args.defs.now c.args.behind.now in
    let us = c.args.uses.now.items in
    let vs = c.met_at.new.uses.items in
    let ws = c.large_in-in-Two.new.uses.items in
    let here = c.args.here in
    let p = c.in-Two.p in
    let q = c.in-Two.q in
    let f = c.in_ok-found-in-Two.found in
    let met : IsMet ds (definitions c.args.defs.now) here.behind us here.source.now (Two p q) vs = rw c.in-Two.is at c.in_ok-met_at.ensures.met in
    found_same (found_from ds us r here) (option_or (found_from ds vs r p) (found_from ds vs r q)) f ws (met.same r)
    (found_or (found_from ds vs r p) (found_from ds vs r q) f ws (c.in_ok-found-in-Two.ensures.found r h) c.in_default.not-None)
