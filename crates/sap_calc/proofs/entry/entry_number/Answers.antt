use Rattle.std.proofs.Common.{◌≡◌, ◌≤◌, ℕ, zero, suc, List, [], ◌∷◌, length, Option, Some, None, refl, sym, subst, arith}
use Rattle.std.specs.Prelude.{slice_get, IfSome, IfNone}
use Rattle.std.proofs.lemmas.List.Elements.{All-contains}
use Rattle.sap_terms.specs.Equations.{equations}
use Rattle.sap_terms.specs.Message.{IsMessage}
use Rattle.sap_terms.specs.Normal.{IsNormal}
use Rattle.sap_terms.specs.Tree.{Tree, node_count}
use Rattle.sap_terms.specs.declared.limits.TheConstants.{MOST_TERM_NODES}
use Rattle.sap_terms.specs.declared.var.Sort.TheVariants.{Msg}
use Rattle.sap_terms.proofs.PlainLaws.Items.{contains_got}
use Rattle.sap_deduce.specs.Entries.{Entry, terms_of}
use Rattle.sap_share.specs.Shared.{tree_at}
use Rattle.sap_calc.proofs.entry.entry_number.Goals as goal

some_so : {A B : ℕ → Type 0} (o : Option ℕ) → ((n : ℕ) → A n → B n) → IfSome o A → IfSome o B
some_so None f h = tt
some_so (Some n) f h = f n h

none_so : {A B : Type 0} (o : Option ℕ) → (A → B) → IfNone o A → IfNone o B
none_so None f h = f h
none_so (Some n) f h = tt

past : (es : List Entry) (k : ℕ) → length es ≤ k → slice_get (terms_of es) k ≡ None
past [] k h = refl
past (e ∷ es) zero h = absurd (omega (arith, h))
past (e ∷ es) (suc k) h = let less : length es ≤ k = omega (arith, h) in past es k less

pub returns-clause-some : goal.returns-clause-some
returns-clause-some c =
    let s = c.args.table.now in
    let known = c.args.knowledge.now in
    some_so c.number.result (λ n here.
    let t : Tree = tree_at s.trees n in
    let stands = contains_got (terms_of known.entries) t c.args.k here.1 in
    let message = All-contains (IsMessage known.sig Msg) (terms_of known.entries) t c.each_is_deducible.ensures.messages stands in
    record {
      small = record {
        below = here.0;
        normal = subst (λ g. IsNormal (equations g) t) (sym c.requires.sig) message.normal;
        within = All-contains (λ (u : Tree). node_count u ≤ MOST_TERM_NODES) (terms_of known.entries) t c.each_is_deducible.ensures.within stands;
      };
      at = here.1;
    }) c.number.ensures.some

pub returns-clause-none : goal.returns-clause-none
returns-clause-none c = none_so c.number.result (λ far. past c.args.knowledge.now.entries c.args.k far) c.number.ensures.none
