use Rattle.std.proofs.Common.{◌≡◌, ◌≤◌, List, ℕ, [], Ok, refl, sym, subst}
use Rattle.std.specs.Prelude.{Result}
use Rattle.sap_terms.specs.Laws.{BuiltinsStayHeld}
use Rattle.sap_terms.specs.Signature.{Sig, pairs_alone}
use Rattle.sap_terms.specs.declared.limits.TheConstants.{MOST_PROCESS_PLACES}
use Rattle.sap_formula.specs.Laws.{CheckLaw}
use Rattle.sap_process.specs.Proc.{Proc, node_count}
use Rattle.sap_process.specs.Flaws.{IsWellFormed}
use Rattle.sap_process.specs.Ready.{IsReady}
use Rattle.sap_process.specs.Sorted.{with_sorts}
use Rattle.sap_read.specs.Item.{bodies, declarations, signature_of, statements}
use Rattle.sap_grammar.specs.Signatures.{clash_from}
use Rattle.sap_read.specs.declared.fault.ReadFault.{ReadFault}
use Rattle.sap_read.specs.Files.{FileContent, IsRead, IsRunnable, no_tokens, no_header, no_item, refused, unexpanded, ill, locked, unchecked, accepted}
use Rattle.sap_read.proofs.Sizes.{sorts_keep_size}
use Rattle.sap_read.proofs.Unrefused.{builtins_held, no_cause, pairs_held}
use Rattle.sap_read.proofs.Small.{AreOneSize, few_places}
use Rattle.sap_read.proofs.Checked.{restrictions_checked, lemmas_checked}
use Rattle.sap_read.proofs.laws.files_are_runnable.Goals as goal

module _ (sizes : AreOneSize) (held : BuiltinsStayHeld) (checks : CheckLaw) (well : (g : Sig) (p : Proc) → IsWellFormed g p → IsReady g (with_sorts [] p)) where
  runnable : (z : List ℕ) (o : Result FileContent ReadFault) (f : FileContent) → o ≡ Ok f → IsRead z o → IsRunnable f
  runnable z o f e (no_tokens l) = absurd (cc (e))
  runnable z o f e (no_header l h) = absurd (cc (e))
  runnable z o f e (no_item l h) = absurd (cc (e))
  runnable z o f e (refused l h c) = absurd (cc (e))
  runnable z o f e (unexpanded l h c u) = absurd (cc (e))
  runnable z o f e (ill l h c m w) = absurd (cc (e))
  runnable z o f e (locked l h c m w k) = absurd (cc (e))
  runnable z o f e (unchecked l h c m w a u) = absurd (cc (e))
  runnable z _ f e (accepted {is = items} {p = p} l h c m w a all) =
      let free = no_cause (bodies items) (statements items) (clash_from pairs_alone (declarations items)) c in
      let small : node_count p ≤ MOST_PROCESS_PLACES = few_places sizes (signature_of items) _ (bodies items) p m in
      subst IsRunnable (same _ f e) (record {
        pairs = pairs_held (declarations items);
        builtins = builtins_held held pairs_alone (declarations items) held.at_start free.no_clash;
        process = with_sorts [] p;
        small = subst (λ n. n ≤ MOST_PROCESS_PLACES) (sym (sorts_keep_size p [])) small;
        ready = well _ p w;
        annotation = a;
        restrictions = restrictions_checked checks (signature_of items) (statements items) all;
        lemmas = lemmas_checked checks (signature_of items) (statements items) all;
      })
    where
      same : (a b : FileContent) → ◌≡◌ {A = Result FileContent ReadFault} (Ok a) (Ok b) → a ≡ b
      same a b e = cc

pub returns : goal.returns
returns c = λ z f r. runnable (record { nodes = c.sizes_are_one.ensures.nodes; levels = c.sizes_are_one.ensures.levels }) c.builtins_stay_held.ensures c.faultless_formulas_are_checked.ensures.checked c.sorting_keeps.ensures.well z (Ok f) f refl r
