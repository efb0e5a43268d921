-- To each place of an expansion one comes by a written place, whose nodes, with arguments put in, are like those that are there.
use Rattle.std.proofs.Common.{◌≡◌, ℕ, zero, suc, List, [], ◌∷◌, map, Option, Some, None, refl, sym, ap, ◌∙◌, subst}
use Rattle.sap_terms.specs.Tree.{Tree}
use Rattle.sap_process.specs.Proc.{Proc}
use Rattle.sap_macro.specs.Located.{Located, call_at}
use Rattle.sap_nodes.specs.HeadNodes.{Node, head_nodes}
use Rattle.sap_origin.specs.Definitions.{LocatedDefinition}
use Rattle.sap_origin.specs.Meant.{definition_of}
use Rattle.sap_origin.specs.Origins.{start}
use Rattle.sap_origin.specs.Reached.{IsForm, Standing, Reaches, reaches_here, reaches_use, reaches_left, reaches_right, reaches_copy, reaches_behind, reaches_then, reaches_else, reaches_found, reaches_missing, entered, process_at, process_below}
use Rattle.sap_stems.specs.Likeness.{AreLike, IsLike}
use Rattle.sap_stems.specs.Stems.{Put, Stem, behind_use, own_stems, put_in}
use Rattle.sap_stems.specs.StemsAt.{AreStems, puts_along}
use Rattle.sap_stems.specs.WrittenNodes.{written_nodes}
use Rattle.sap_stems.proofs.LikeNodes.{AreLikeNodes}
use Rattle.sap_stems.proofs.Meant.{MeansSo, so_nil, so_parallel, so_replicated, so_act, so_test, so_lookup, so_use}
use Rattle.sap_stems.proofs.NodesIn.{NodesPut, bare, bare_behind, bare_from, bare_in, node_of, nodes_behind, nodes_in}
use Rattle.sap_stems.proofs.Pieces.{unmapped_zip}

module _ (ds : List LocatedDefinition) where
  -- one comes to a written place, which means this, and has words
  pub record FoundSo (s : Standing) (p : Located) (path : List ℕ) (ps : List Put) (y : Proc) : Type 0 where
    pub standing : Standing
    pub place : Located
    pub reached : Reaches ds s p path standing place
    pub form : IsForm place
    pub nodes : List NodesPut
    pub bare_is : nodes ≡ bare (puts_along reached ps)
    pub means : MeansSo ds nodes place y

  same_proc : {ns : List NodesPut} {p : Located} {x y : Proc} → MeansSo ds ns p x → ◌≡◌ {A = Option Proc} (Some x) (Some y) → MeansSo ds ns p y
  same_proc {ns = ns} {p = p} {x = x} {y = y} m e = let is : x ≡ y = cc (e) in subst (λ (z : Proc). MeansSo ds ns p z) is m

  here : {s : Standing} {p : Located} {x y : Proc} {ns : List NodesPut} (ps : List Put) → ns ≡ bare ps → IsForm p → MeansSo ds ns p x → ◌≡◌ {A = Option Proc} (Some x) (Some y)
      → FoundSo s p [] ps y
  here {s = s} {p = p} {ns = ns} ps b f m e = record { standing = s; place = p; reached = reaches_here f; form = f; nodes = ns; bare_is = b; means = same_proc m e }

  -- nothing has a place at other digits
  nowhere : {A : Type 0} {y : Proc} (path : List ℕ) → process_below None path ≡ Some y → A
  nowhere [] e = absurd (cc (e))
  nowhere (e ∷ path) h = absurd (cc (h))

  through : {s : Standing} {k : ℕ} {f : List ℕ} {ts : List Tree} {d : LocatedDefinition} {path : List ℕ} {y : Proc} (ps : List Put)
      → definition_of ds f ≡ Some d → FoundSo (entered s k d) d.body path (behind_use s (call_at k f ts) ps d.params ts) y → FoundSo s (call_at k f ts) path ps y
  through ps e h = record {
    standing = h.standing;
    place = h.place;
    reached = reaches_use e tt h.reached;
    form = h.form;
    nodes = h.nodes;
    bare_is = h.bare_is;
    means = h.means;
  }

  pub found_so : (s : Standing) {ns : List NodesPut} {p : Located} {x y : Proc} (path : List ℕ) (ps : List Put) → ns ≡ bare ps → MeansSo ds ns p x → process_at x path ≡ Some y → FoundSo s p path ps y
  found_so s path ps b (so_use {k = k} {f = f} {ts = ts} {d = d} e m) h =
      through ps e
      (found_so (entered s k d) path (behind_use s (call_at k f ts) ps d.params ts)
      (ap (λ (ms : List NodesPut). nodes_behind ms d.params ts) b ∙ sym (bare_behind s (call_at k f ts) ps d.params ts)) m h)
  found_so s [] ps b so_nil h = here ps b tt so_nil h
  found_so s [] ps b (so_parallel m n) h = here ps b tt (so_parallel m n) h
  found_so s [] ps b (so_replicated m) h = here ps b tt (so_replicated m) h
  found_so s [] ps b (so_act l m) h = here ps b tt (so_act l m) h
  found_so s [] ps b (so_test l m n) h = here ps b tt (so_test l m n) h
  found_so s [] ps b (so_lookup l m n) h = here ps b tt (so_lookup l m n) h
  found_so s (zero ∷ path) ps b so_nil h = nowhere path h
  found_so s (suc zero ∷ path) ps b so_nil h = nowhere path h
  found_so s (suc (suc zero) ∷ path) ps b so_nil h = nowhere path h
  found_so s (suc (suc (suc k)) ∷ path) ps b so_nil h = nowhere path h
  found_so s (zero ∷ path) ps b (so_parallel m n) h = nowhere path h
  found_so s (suc zero ∷ path) ps b (so_parallel m n) h =
      let r = found_so s path ps b m h in
      record { standing = r.standing; place = r.place; reached = reaches_left r.reached; form = r.form; nodes = r.nodes; bare_is = r.bare_is; means = r.means }
  found_so s (suc (suc zero) ∷ path) ps b (so_parallel m n) h =
      let r = found_so s path ps b n h in
      record { standing = r.standing; place = r.place; reached = reaches_right r.reached; form = r.form; nodes = r.nodes; bare_is = r.bare_is; means = r.means }
  found_so s (suc (suc (suc k)) ∷ path) ps b (so_parallel m n) h = nowhere path h
  found_so s (zero ∷ path) ps b (so_replicated m) h = nowhere path h
  found_so s (suc zero ∷ path) ps b (so_replicated m) h =
      let r = found_so s path ps b m h in
      record { standing = r.standing; place = r.place; reached = reaches_copy r.reached; form = r.form; nodes = r.nodes; bare_is = r.bare_is; means = r.means }
  found_so s (suc (suc zero) ∷ path) ps b (so_replicated m) h = nowhere path h
  found_so s (suc (suc (suc k)) ∷ path) ps b (so_replicated m) h = nowhere path h
  found_so s (zero ∷ path) ps b (so_act l m) h = nowhere path h
  found_so s (suc zero ∷ path) ps b (so_act l m) h =
      let r = found_so s path ps b m h in
      record { standing = r.standing; place = r.place; reached = reaches_behind r.reached; form = r.form; nodes = r.nodes; bare_is = r.bare_is; means = r.means }
  found_so s (suc (suc zero) ∷ path) ps b (so_act l m) h = nowhere path h
  found_so s (suc (suc (suc k)) ∷ path) ps b (so_act l m) h = nowhere path h
  found_so s (zero ∷ path) ps b (so_test l m n) h = nowhere path h
  found_so s (suc zero ∷ path) ps b (so_test l m n) h =
      let r = found_so s path ps b m h in
      record { standing = r.standing; place = r.place; reached = reaches_then r.reached; form = r.form; nodes = r.nodes; bare_is = r.bare_is; means = r.means }
  found_so s (suc (suc zero) ∷ path) ps b (so_test l m n) h =
      let r = found_so s path ps b n h in
      record { standing = r.standing; place = r.place; reached = reaches_else r.reached; form = r.form; nodes = r.nodes; bare_is = r.bare_is; means = r.means }
  found_so s (suc (suc (suc k)) ∷ path) ps b (so_test l m n) h = nowhere path h
  found_so s (zero ∷ path) ps b (so_lookup l m n) h = nowhere path h
  found_so s (suc zero ∷ path) ps b (so_lookup l m n) h =
      let r = found_so s path ps b m h in
      record { standing = r.standing; place = r.place; reached = reaches_found r.reached; form = r.form; nodes = r.nodes; bare_is = r.bare_is; means = r.means }
  found_so s (suc (suc zero) ∷ path) ps b (so_lookup l m n) h =
      let r = found_so s path ps b n h in
      record { standing = r.standing; place = r.place; reached = reaches_missing r.reached; form = r.form; nodes = r.nodes; bare_is = r.bare_is; means = r.means }
  found_so s (suc (suc (suc k)) ∷ path) ps b (so_lookup l m n) h = nowhere path h

  -- the nodes of a form are like those that are written there
  head_like : {ns : List NodesPut} {q : Located} {y : Proc} → IsForm q → MeansSo ds ns q y → AreLikeNodes (nodes_in ns (written_nodes q)) (head_nodes y)
  head_like f so_nil = tt
  head_like f (so_parallel m n) = tt
  head_like f (so_replicated m) = tt
  head_like f (so_act l m) = l
  head_like f (so_test l m n) = l
  head_like f (so_lookup l m n) = l
  head_like f (so_use e m) = absurd f

  -- the nodes have stems
  pub has_stems : (p : Located) (behind : ℕ) (path : List ℕ) (x y : Proc) → MeansSo ds [] p x → process_at x path ≡ Some y → (ss : List Stem) × AreStems ds p behind path ss × AreLike ss (head_nodes y)
  has_stems p behind path x y m e =
      let r = found_so (start behind) path [] refl m e in
      let puts : List Put = puts_along r.reached [] in
      let own : List Stem = own_stems r.standing r.place in
      let ss : List Stem = put_in puts own in
      let nodes : map node_of ss ≡ nodes_in r.nodes (written_nodes r.place) =
      bare_in puts own ∙ ap (λ (ns : List NodesPut). nodes_in ns (map node_of own)) (sym r.bare_is) ∙ ap (λ (ns : List Node). nodes_in r.nodes ns) (bare_from r.standing r.place 0 (written_nodes r.place)) in (
        ss,
        record { standing = r.standing; place = r.place; reaches = r.reached; stems_are = refl },
        unmapped_zip IsLike node_of ss (head_nodes y) (subst (λ (ns : List Node). AreLikeNodes ns (head_nodes y)) (sym nodes) (head_like r.form r.means)),
      )
