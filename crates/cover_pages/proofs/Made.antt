-- Pages that are made.
use Rattle.std.proofs.Common.{◌≡◌, ℕ, zero, suc, ◌+◌, ℤ, Bool, List, [], ◌∷◌, ◌++◌, length, map, take, slice_get, Option, Some, None, option_map, option_and_then, unwrap_or, refl, sym, ◌∙◌, ap, ap₂, arith}
use Rattle.std.proofs.lemmas.Option.{none-some, same_Some}
use Rattle.dp_laws.specs.declared.arc.DdArc.{DdArc}
use Rattle.dp_laws.specs.Diagrams.Nodes.{DdNode, DdLayers, node_at}
use Rattle.bound_cover.specs.declared.cover.CoverArc.{CoverArc}
use Rattle.board_laws.specs.declared.fate.Fate.{Fate}
use Rattle.cover_pages.specs.declared.pages.Place.{Place}
use Rattle.cover_pages.specs.Pages.{ChildView, bare_arc, children_of, path_in}
use Rattle.cover_pages.specs.Stored.{NodeBody, LayerBody, body_of, numbered}
use Rattle.cover_pages.specs.Sizes.{nodes_of}
use Rattle.cover_pages.proofs.Lists.{map-more}

-- the arcs of a node, and none where there is no node
abbrev pub arcs_in : Option DdNode → List DdArc
arcs_in o = unwrap_or (option_map (λ (n : DdNode). n.arcs) o) []

pub arcs-more : (o : Option DdNode) (i : ℕ) (arc : DdArc) (a : CoverArc) (now new : List CoverArc) → option_and_then (λ (m : DdNode). slice_get m.arcs i) o ≡ Some arc → a ≡ bare_arc arc → now ≡ map bare_arc (take i (arcs_in o)) → new ≡ now ++ a ∷ []
    → new ≡ map bare_arc (take (i + 1) (arcs_in o))
arcs-more None i arc a now new at is h n = absurd (none-some arc at)
arcs-more (Some m) i arc a now new at is h n = map-more bare_arc m.arcs i arc a now new at (sym is) h n

take-whole : {X : Type 0} (xs : List X) (i : ℕ) → i ≡ length xs → take i xs ≡ xs
take-whole [] zero e = refl
take-whole [] (suc i) e = absurd (omega arith)
take-whole (x ∷ xs) zero e = absurd (omega arith)
take-whole (x ∷ xs) (suc i) e = ap (λ l. x ∷ l) (take-whole xs i (omega arith))

pub arcs-all : (o : Option DdNode) (i n : ℕ) (arcs : List CoverArc) → option_map (λ (m : DdNode). length m.arcs) o ≡ Some n → i ≡ n → arcs ≡ map bare_arc (take i (arcs_in o)) → option_map (λ (m : DdNode). map bare_arc m.arcs) o ≡ Some arcs
arcs-all None i n arcs e end h = absurd (none-some n e)
arcs-all (Some m) i n arcs e end h = ap Some (sym (h ∙ ap (map bare_arc) (take-whole m.arcs i (end ∙ sym (same_Some (length m.arcs) n e)))))

abbrev body : ℤ → Option ℤ → Bool → List CoverArc → NodeBody
body value suffix exact arcs = record { value = value; suffix = suffix; exact = exact; arcs = arcs }

-- a node of its parts
pub node-made : (o : Option DdNode) (b : NodeBody) → option_map (λ (n : DdNode). n.value) o ≡ Some b.value → option_map (λ (n : DdNode). n.suffix) o ≡ Some b.suffix → option_map (λ (n : DdNode). n.exact) o ≡ Some b.exact → option_map (λ (n : DdNode). map bare_arc n.arcs) o ≡ Some b.arcs → option_map body_of o ≡ Some b
node-made None b v s e a = absurd (none-some b.value v)
node-made (Some n) b v s e a =
    let v1 = same_Some n.value b.value v in
    let s1 = same_Some n.suffix b.suffix s in
    let e1 = same_Some n.exact b.exact e in
    let a1 = same_Some (map bare_arc n.arcs) b.arcs a in
    ap (λ x. Some (body x n.suffix n.exact (map bare_arc n.arcs))) v1
    ∙ (ap (λ x. Some (body b.value x n.exact (map bare_arc n.arcs))) s1 ∙ (ap (λ x. Some (body b.value b.suffix x (map bare_arc n.arcs))) e1 ∙ ap (λ x. Some (body b.value b.suffix b.exact x)) a1))

-- one layer more is numbered
numbered-after : (start : ℕ) (ls : List (List DdNode)) (i : ℕ) (l : List DdNode) → slice_get ls i ≡ Some l → numbered start (take (suc i) ls) ≡ numbered start (take i ls) ++ record { start = start + nodes_of (take i ls); nodes = map body_of l } ∷ []
numbered-after start [] i l e = absurd (none-some l e)
numbered-after start (m ∷ ms) zero l e =
    let same = same_Some m l e in
    let none : start ≡ start + 0 = omega arith in
    ap₂ (λ (s : ℕ) (x : List DdNode). (let b : LayerBody = record { start = s; nodes = map body_of x } in b) ∷ []) none same
numbered-after start (m ∷ ms) (suc i) l e =
    let on : start + length m + nodes_of (take i ms) ≡ start + (length m + nodes_of (take i ms)) = omega arith in
    ap (λ x. record { start = start; nodes = map body_of m } ∷ x) (numbered-after (start + length m) ms i l e
    ∙ ap (λ (s : ℕ). numbered (start + length m) (take i ms) ++ record { start = s; nodes = map body_of l } ∷ []) on)

nodes-after : (ls : List (List DdNode)) (i : ℕ) (l : List DdNode) → slice_get ls i ≡ Some l → nodes_of (take (suc i) ls) ≡ nodes_of (take i ls) + length l
nodes-after [] i l e = absurd (none-some l e)
nodes-after (m ∷ ms) zero l e = let same = ap (λ (x : List DdNode). length x) (same_Some m l e) in omega arith
nodes-after (m ∷ ms) (suc i) l e = let rest = nodes-after ms i l e in omega arith

pub nodes-next : (ls : List (List DdNode)) (i : ℕ) (l : List DdNode) → slice_get ls i ≡ Some l → nodes_of (take (i + 1) ls) ≡ nodes_of (take i ls) + length l
nodes-next ls i l e = let next : i + 1 ≡ suc i = omega arith in ap (λ n. nodes_of (take n ls)) next ∙ nodes-after ls i l e

pub nodes-whole : (ls : List (List DdNode)) (i : ℕ) → i ≡ length ls → nodes_of (take i ls) ≡ nodes_of ls
nodes-whole ls i e = ap nodes_of (take-whole ls i e)

pub numbered-more : (ls : List (List DdNode)) (i start : ℕ) (l : List DdNode) (nodes : List NodeBody) (layer : LayerBody) (now new : List LayerBody) → slice_get ls i ≡ Some l → nodes ≡ map body_of l → start ≡ nodes_of (take i ls) → layer ≡ record { start = start; nodes = nodes } → now ≡ numbered 0 (take i ls) → new ≡ now ++ layer ∷ []
    → new ≡ numbered 0 (take (i + 1) ls)
numbered-more ls i start l nodes layer now new at is s made h n =
    let next : suc i ≡ i + 1 = omega arith in
    let from : nodes_of (take i ls) ≡ 0 + nodes_of (take i ls) = omega arith in
    let its : layer ≡ record { start = 0 + nodes_of (take i ls); nodes = map body_of l } = made ∙ ap₂ (λ (k : ℕ) (x : List NodeBody). (let b : LayerBody = record { start = k; nodes = x } in b)) (s ∙ from) is in
    n ∙ (ap₂ (λ (x : List LayerBody) (y : LayerBody). x ++ y ∷ []) h its ∙ (sym (numbered-after 0 ls i l at) ∙ ap (λ k. numbered 0 (take k ls)) next))

pub numbered-whole : (ls : List (List DdNode)) (i : ℕ) → i ≡ length ls → numbered 0 (take i ls) ≡ numbered 0 ls
numbered-whole ls i e = ap (numbered 0) (take-whole ls i e)

pub taken-whole : {X Y : Type 0} (f : X → Y) (xs : List X) (i : ℕ) → i ≡ length xs → map f (take i xs) ≡ map f xs
taken-whole f xs i e = ap (map f) (take-whole xs i e)

-- the decisions of a child
pub path-is : (d : DdLayers) (place : Place) (path : List ℕ) → option_map (λ (n : DdNode). n.path) (node_at d place.depth place.node) ≡ Some path → path_in d place ≡ path
path-is d place path e = path-of (node_at d place.depth place.node) path e
  where
    path-of : (o : Option DdNode) (path : List ℕ) → option_map (λ (n : DdNode). n.path) o ≡ Some path → unwrap_or (option_map (λ (n : DdNode). n.path) o) [] ≡ path
    path-of o path e = ap (λ (x : Option (List ℕ)). unwrap_or x []) e

-- one child more
children-after : (d : DdLayers) (ps : List Place) (fs : List Fate) (i : ℕ) (p : Place) (f : Fate) → slice_get ps i ≡ Some p → slice_get fs i ≡ Some f
    → children_of d (take (suc i) ps) (take (suc i) fs) ≡ children_of d (take i ps) (take i fs) ++ record { place = p; decisions = path_in d p; fate = f } ∷ []
children-after d [] fs i p f e g = absurd (none-some p e)
children-after d (q ∷ qs) [] i p f e g = absurd (none-some f g)
children-after d (q ∷ qs) (h ∷ hs) zero p f e g = ap₂ (λ (a : Place) (b : Fate). (let c : ChildView = record { place = a; decisions = path_in d a; fate = b } in c) ∷ []) (same_Some q p e) (same_Some h f g)
children-after d (q ∷ qs) (h ∷ hs) (suc i) p f e g = ap (λ l. record { place = q; decisions = path_in d q; fate = h } ∷ l) (children-after d qs hs i p f e g)

pub children-more : (d : DdLayers) (ps : List Place) (fs : List Fate) (i : ℕ) (p : Place) (f : Fate) (c : ChildView) (now new : List ChildView) → slice_get ps i ≡ Some p → slice_get fs i ≡ Some f → c ≡ record { place = p; decisions = path_in d p; fate = f }
    → now ≡ children_of d (take i ps) (take i fs) → new ≡ now ++ c ∷ [] → new ≡ children_of d (take (i + 1) ps) (take (i + 1) fs)
children-more d ps fs i p f c now new e g is h n =
    let next : suc i ≡ i + 1 = omega arith in
    n ∙ (ap₂ (λ (x : List ChildView) (y : ChildView). x ++ y ∷ []) h is ∙ (sym (children-after d ps fs i p f e g) ∙ ap (λ k. children_of d (take k ps) (take k fs)) next))

pub children-whole : (d : DdLayers) (ps : List Place) (fs : List Fate) (i : ℕ) → i ≡ length ps → length fs ≡ length ps → children_of d (take i ps) (take i fs) ≡ children_of d ps fs
children-whole d ps fs i e g = ap₂ (children_of d) (take-whole ps i e) (take-whole fs i (e ∙ sym g))
