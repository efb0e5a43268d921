use Rattle.std.proofs.Common.{◌≡◌, ℕ, false, List, Ok, refl, subst}
use Rattle.std.specs.Prelude.{Result}
use Rattle.std.proofs.lemmas.List.Elements.{All-from_recursion}
use Rattle.sap_terms.specs.Signature.{pairs_alone}
use Rattle.sap_restrict.specs.Restrictions.{is_generated}
use Rattle.sap_grammar.specs.Signatures.{clash_from}
use Rattle.sap_read.specs.Item.{bodies, declarations, statements}
use Rattle.sap_read.specs.declared.fault.ReadFault.{ReadFault}
use Rattle.sap_read.specs.Files.{FileContent, IsRead, no_tokens, no_header, no_item, refused, unexpanded, ill, locked, unchecked, accepted}
use Rattle.sap_read.specs.OwnNames.{statement_names, IsNamedApart}
use Rattle.sap_statements.specs.Stated.{restrictions_of, lemmas_of}
use Rattle.sap_read.proofs.OwnNames.{own_names, unreserved_names}
use Rattle.sap_read.proofs.Unrefused.{no_cause}
use Rattle.sap_read.proofs.laws.files_are_named_apart.Goals as goal

named_apart : (z : List ℕ) (o : Result FileContent ReadFault) (f : FileContent) → o ≡ Ok f → IsRead z o → IsNamedApart f
named_apart z o f e (no_tokens l) = absurd (cc (e))
named_apart z o f e (no_header l h) = absurd (cc (e))
named_apart z o f e (no_item l h) = absurd (cc (e))
named_apart z o f e (refused l h c) = absurd (cc (e))
named_apart z o f e (unexpanded l h c u) = absurd (cc (e))
named_apart z o f e (ill l h c m w) = absurd (cc (e))
named_apart z o f e (locked l h c m w k) = absurd (cc (e))
named_apart z o f e (unchecked l h c m w a u) = absurd (cc (e))
named_apart z _ f e (accepted {is = items} l h c m w a all) =
    let ss = statements items in
    let free = no_cause (bodies items) ss (clash_from pairs_alone (declarations items)) c in
    subst IsNamedApart (same _ f e) (record {
      distinct = own_names is_generated ss free.untaken;
      own = All-from_recursion (λ n. is_generated n ≡ false) (statement_names (restrictions_of ss) (lemmas_of ss)) (unreserved_names is_generated ss free.untaken);
    })
  where
    same : (a b : FileContent) → ◌≡◌ {A = Result FileContent ReadFault} (Ok a) (Ok b) → a ≡ b
    same a b e = cc

pub returns : goal.returns
returns c = λ z f r. named_apart z (Ok f) f refl r
