use Rattle.std.proofs.Common.{◌≡◌, ◌+◌, List, [], ◌∷◌, ◌++◌, take, sym, ap, ◌∙◌, arith, subst}
use Rattle.std.proofs.lemmas.List.{take_more}
use Rattle.std.proofs.lemmas.Option.{get_or_from_slice_get}
use Rattle.sap_terms.specs.Message.{IsMessage}
use Rattle.sap_terms.specs.Signature.{Sig}
use Rattle.sap_terms.specs.Tree.{Tree}
use Rattle.sap_terms.specs.View.{tree}
use Rattle.sap_terms.specs.declared.var.Sort.TheVariants.{Msg}
use Rattle.sap_derive.specs.Found.{IsSmallMessage}
use Rattle.sap_derive.specs.Searched.{Searched}
use Rattle.sap_derive.proofs.Gets.{all-got}
use Rattle.sap_derive.proofs.derived.enter_all.Goals as goal

pub enter-requires-clause-message : goal.enter-requires-clause-message
enter-requires-clause-message c =
    let t = tree c.at.result.now in
    let m = all-got (IsSmallMessage c.args.search.now.sig) c.args.entries.now c.loop-k.k t c.requires.messages c.at.ensures.got in
    subst (λ (g : Sig). IsMessage g Msg t) (sym c.loop-k.invariant.sig) m.0

pub enter-requires-clause-within : goal.enter-requires-clause-within
enter-requires-clause-within c =
    (all-got (IsSmallMessage c.args.search.now.sig) c.args.entries.now c.loop-k.k (tree c.at.result.now) c.requires.messages c.at.ensures.got).1

pub loop-k-preserved : goal.loop-k-preserved
loop-k-preserved c =
    let t = tree c.at.result.now in
    let es = c.args.entries.now in
    let k = c.loop-k.k in
    let e = c.in_ok-enter.ensures.ok in
    let more : take (k + 1) es ≡ take k es ++ t ∷ [] = take_more es k t (omega arith) ∙ ap (λ (u : Tree). take k es ++ u ∷ []) (get_or_from_slice_get es k t t c.at.ensures.got) in
    record {
      sig = ap (λ (v : Searched). v.sig) e ∙ c.loop-k.invariant.sig;
      entries = ap (λ (v : Searched). v.entries) e ∙ ap (λ (ts : List Tree). ts ++ t ∷ []) c.loop-k.invariant.entries ∙ sym more;
    }
