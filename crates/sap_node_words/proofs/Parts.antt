-- What a term begins with tells whether it is the whole rest of a tuple or its first part.
use Rattle.std.proofs.Common.{◌≡◌, ℕ, true, false, List, ◌∷◌, Some, None, refl, ap, ◌∙◌}
use Rattle.std.specs.Prelude.{codes}
use Rattle.sap_terms.specs.declared.var.Sort.TheVariants.{Msg}
use Rattle.sap_terms.specs.Signature.{Sig}
use Rattle.sap_terms.specs.Tree.{Tree, public, apply, Trees, none, more, trees_of}
use Rattle.sap_grammar.specs.Words.{Word, mark, name, quoted, starts}
use Rattle.sap_grammar.specs.TermGrammar.{sorted, IsTerm, term_constant, term_message, term_fresh, term_pub, term_quoted, term_symbol, term_tuple, list_last, list_more, args_none, args_some}
use Rattle.sap_node_words.specs.code.Walk.{opened, is_parted, begins_parted}

-- no term begins with a closing parenthesis
pub term_begins : {g : Sig} {t : Tree} {a b : List Word} → IsTerm g t a b → starts (codes ")") a ≡ false
term_begins (term_constant is) = refl
term_begins (term_message is) = refl
term_begins term_fresh = refl
term_begins term_pub = refl
term_begins term_quoted = refl
term_begins (term_symbol low r) = refl
term_begins (term_tuple r s) = refl

-- what a name opens
opens_nothing : (x : Word) (a : List Word) → starts (codes "<") (x ∷ a) ≡ false → starts (codes "(") a ≡ false → opened (x ∷ a) ≡ None
opens_nothing x a h e = rw (h, e) refl

opens : (f : List ℕ) (a : List Word) → starts (codes ")") a ≡ false → opened (name f ∷ mark (codes "(") ∷ a) ≡ Some a
opens f a e = rw e refl

-- a symbol on a term and others opens more than the term's words do
pub parted : {g : Sig} {t : Tree} {a b : List Word} → IsTerm g t a b → starts (codes "(") b ≡ false → (us : Trees) → is_parted (more t us) a ≡ true
parted (term_constant {x = x} {a = a} is) follows us = ap (begins_parted (apply x none)) (opens_nothing (name x) a refl follows)
parted (term_message {x = x} {a = a} is) follows us = ap (begins_parted (sorted Msg x)) (opens_nothing (name x) a refl follows)
parted term_fresh follows us = refl
parted term_pub follows us = refl
parted (term_quoted {s = s} {a = a}) follows us = ap (begins_parted (public s)) (opens_nothing (quoted s) a refl follows)
parted (term_symbol low args_none) follows us = refl
parted (term_symbol {f = f} low (args_some (list_last {t = t} {a = a} r))) follows us =
    ap (begins_parted (apply f (more t none))) (opens f a (term_begins r)) ∙ parted r refl none
parted (term_symbol {f = f} low (args_some (list_more {t = t} {ts = ts} {a = a} r s))) follows us =
    ap (begins_parted (apply f (more t (trees_of ts)))) (opens f a (term_begins r)) ∙ parted r refl (trees_of ts)
parted (term_tuple {u = u} r s) follows us = parted r refl (more u none)

-- a term opens as much as its words do
pub whole : {g : Sig} {t : Tree} {a b : List Word} → IsTerm g t a b → starts (codes "(") b ≡ false → begins_parted t (Some a) ≡ false
whole (term_constant is) follows = refl
whole (term_message is) follows = refl
whole term_fresh follows = refl
whole term_pub follows = refl
whole term_quoted follows = refl
whole (term_symbol low args_none) follows = refl
whole (term_symbol {f = f} low (args_some (list_last {t = t} {a = a} r))) follows = ap (begins_parted t) (opens f a (term_begins r)) ∙ whole r refl
whole (term_symbol {f = f} low (args_some (list_more {t = t} {a = a} r s))) follows = ap (begins_parted t) (opens f a (term_begins r)) ∙ whole r refl
whole (term_tuple r s) follows = whole r refl
