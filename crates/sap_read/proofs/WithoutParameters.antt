-- Files whose definitions have no parameters: no use is left, and what is read is the tree that is written.
use Rattle.std.proofs.Common.{◌≡◌, ℕ, List, [], ◌∷◌, Ok, refl, sym, subst, ◌∙◌}
use Rattle.sap_terms.specs.Signature.{pairs_alone}
use Rattle.sap_grammar.specs.Signatures.{clash_from}
use Rattle.sap_grammar.specs.Words.{words_of}
use Rattle.sap_locks.specs.Annotation.{IsAnnotation}
use Rattle.sap_process.specs.Proc.{Proc}
use Rattle.sap_process.specs.Sorted.{with_sorts}
use Rattle.sap_macro.specs.Expansion.{behind, expansion, plain}
use Rattle.sap_macro.specs.Indexed.{defined}
use Rattle.sap_macro.specs.Order.{AreInOrder, UsesOnly, with_parameters}
use Rattle.sap_macro.specs.Replaced.{AreWithoutParameters, nothing_stands, process_of}
use Rattle.sap_macro.specs.Written.{Written, nil, call, parallel, replicated, act, test, lookup, Definition}
use Rattle.sap_macro.specs.WrittenRuns.{HasArgumentsInScope}
use Rattle.sap_read.specs.AsWritten.{IsWrittenAs}
use Rattle.sap_read.specs.FileProcess.{definitions_of}
use Rattle.sap_read.specs.Files.{FileContent, IsRead}
use Rattle.sap_read.specs.Identifiers.{identifiers_of}
use Rattle.sap_read.specs.Item.{bodies, declarations, statements}
use Rattle.sap_read.proofs.AsWritten.{Accepted, of_accepted}
use Rattle.sap_read.proofs.InOrder.{all_in_order, main_defined}
use Rattle.sap_read.proofs.PlainFiles.{none_left}
use Rattle.sap_read.proofs.Unrefused.{no_cause}

-- where no use is left, each names in its arguments what is in scope
pub none_asked : (scope : List (List ℕ)) (w : Written) → UsesOnly [] w → HasArgumentsInScope scope w
none_asked scope nil h = tt
none_asked scope (call f ts) h = absurd (cc (h))
none_asked scope (parallel p q) h = (none_asked scope p h.0, none_asked scope q h.1)
none_asked scope (replicated p) h = none_asked scope p h
none_asked scope (act a p) h = none_asked (behind scope a) p h
none_asked scope (test t u p q) h = (none_asked scope p h.0, none_asked scope q h.1)
none_asked scope (lookup t x p q) h = (none_asked (x.name ∷ scope) p h.0, none_asked scope q h.1)

-- no use is left, and q is the tree that is written, with sorts and labels
pub record IsTree (q : Proc) (ds : List Definition) (p : Written) : Type 0 where
  pub left : UsesOnly [] (plain ds p)
  pub annotated : IsAnnotation (with_sorts [] (process_of nothing_stands ds p)) q

module _ (one : (z : List ℕ) (ds es : List Definition) (p q : Written) → IsWrittenAs z ds p → IsWrittenAs z es q → (ds ≡ es) × (p ≡ q))
    (parameters : (ds : List Definition) (p : Written) → AreInOrder [] ds → UsesOnly (defined ds) p → UsesOnly (with_parameters [] ds) (plain ds p))
    (stands : (ds : List Definition) (p : Written) (identifiers : List (List ℕ)) → AreInOrder [] ds → AreWithoutParameters ds
    → (expansion ds identifiers p).process ≡ process_of nothing_stands ds p) where
  tree_here : (z : List ℕ) (f : FileContent) (a : Accepted z f) → let ds = definitions_of (bodies a.items) in AreWithoutParameters ds → IsTree f.process ds a.is_whole.main
  tree_here z f a none =
      let bs = bodies a.items in
      let ds = definitions_of bs in
      let main = a.is_whole.main in
      let free = no_cause bs (statements a.items) (clash_from pairs_alone (declarations a.items)) a.unrefused in
      let order = all_in_order bs free.known free.distinct in
      let tree = sym a.is_whole.whole ∙ stands ds main (identifiers_of (words_of z a.tokens)) order none in
      record {
        left = none_left parameters ds main order (main_defined bs main free.known a.is_whole.is_main) none;
        annotated = subst (λ (q : Proc). IsAnnotation (with_sorts [] q) f.process) tree a.annotated;
      }

  pub is_tree : (z : List ℕ) (f : FileContent) (ds : List Definition) (p : Written) → IsRead z (Ok f) → IsWrittenAs z ds p → AreWithoutParameters ds → IsTree f.process ds p
  is_tree z f ds p r w none =
      let a = of_accepted z (Ok f) f refl r in
      let es = definitions_of (bodies a.items) in
      let main = a.is_whole.main in
      let own : IsWrittenAs z es main = record { tokens = a.tokens; name = a.name; cut = a.cut; items = a.items; parted = a.parted; spelled = a.spelled; definitions = refl; process = a.is_whole.is_main } in
      let same = one z ds es p main w own in
      let here = tree_here z f a (subst AreWithoutParameters same.0 none) in
      subst (λ (d : List Definition). IsTree f.process d p) (sym same.0) (subst (IsTree f.process es) (sym same.1) here)
