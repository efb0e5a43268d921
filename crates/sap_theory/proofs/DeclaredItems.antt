-- What the items of a theory declare is what is read in their words.
use Rattle.std.proofs.Common.{◌≡◌, List, [], Some, refl, ap}
use Rattle.sap_terms.specs.Signature.{Sig}
use Rattle.sap_grammar.specs.declared.limits.Limits.{Limits}
use Rattle.sap_grammar.specs.Words.{Word}
use Rattle.sap_grammar.specs.Cut.{Placed, words}
use Rattle.sap_grammar.specs.Declarations.{Declaration, Declares, declares_builtins, declares_functions}
use Rattle.sap_grammar.specs.Items.{Standing, AreItems, items_end, items_more}
use Rattle.sap_grammar.specs.ItemReading.{told, declared_in, declared_in_all}
use Rattle.sap_statements.specs.declared.statement.Statement.{Statement}
use Rattle.sap_statements.specs.Statements.{is_restriction, is_lemma}
use Rattle.sap_theory.specs.TheoryGrammar.{TheoryItem, IsItemBy, item_builtins, item_functions, item_rule, item_statement, declared_by, declarations}
use Rattle.sap_theory.specs.WrittenItems.{AreWrittenItems}

-- what is declared is read
abbrev pub IsDeclaredRead : Type 0
IsDeclaredRead = (ws : List Word) (ds : List Declaration) → Declares ws ds → declared_in ws ≡ Some ds

pub item_declares : IsDeclaredRead → {sorting : Statement → Statement} {g : Sig} {m : Limits} {v : TheoryItem} {a : List Word} → IsItemBy sorting g m v a → told (declared_in a) ≡ declared_by v
item_declares declared (item_builtins r) = ap told (declared _ _ (declares_builtins r))
item_declares declared (item_functions r) = ap told (declared _ _ (declares_functions r))
item_declares declared (item_rule r) = refl
item_declares declared (item_statement (is_restriction r)) = refl
item_declares declared (item_statement (is_lemma r s t)) = refl

-- so it is with all items, where each declares what is read in it
pub items_declare : {Spells : TheoryItem → List Word → Type 0} → ((v : TheoryItem) (a : List Word) → Spells v a → told (declared_in a) ≡ declared_by v)
    → {cut : List (List Placed)} {vs : List (Standing TheoryItem)} → AreItems Spells cut vs → declarations vs ≡ declared_in_all cut
items_declare one (items_end {i = i} e) =
    let none : told (declared_in (words i)) ≡ [] = ap (λ (w : List Word). told (declared_in w)) e in
    rw none refl
items_declare one (items_more r rs) = rw (one _ _ r, items_declare one rs) refl

pub written_declare : IsDeclaredRead → {g : Sig} {cut : List (List Placed)} {vs : List (Standing TheoryItem)} → AreWrittenItems g cut vs → declarations vs ≡ declared_in_all cut
written_declare declared r = items_declare (λ v a s. item_declares declared s) r
