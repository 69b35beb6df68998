-- One child more in memory.
use Rattle.std.proofs.Common.{◌≡◌, ℕ, suc, ◌+◌, ◌*◌, ◌<◌, ◌≤◌, ℤ, true, List, [], ◌∷◌, ◌++◌, length, map, take, drop, Option, Some, None, option_map, refl, sym, ◌∙◌, ap, arith, length-append, length-drop, mul-le-mul_right}
use Rattle.std.proofs.lemmas.List.{take_all, take-append-le, drop-append-le, length-take-le}
use Rattle.std.proofs.Math.Nat.{suc-mul}
use Rattle.dp_model.specs.Lists.{Each}
use Rattle.dp_laws.specs.Diagrams.Nodes.{DdNode, DdLayers, node_at}
use Rattle.dp_laws.specs.Diagrams.Cutsets.{with_bound, child_from}
use Rattle.dp_laws.proofs.Diagrams.Places.{same-Some}
use Rattle.exact_cutset.specs.declared.child.Child.{Child}
use Rattle.exact_cutset.specs.Seen.{ChildrenView, MayKeep, with_child}
use Rattle.exact_cutset.specs.Stored.{child_place, shown_sub, shown_subs, shown_solution, depths_of, HasChildren}

-- Lists.

no-items : {X : Type 0} (xs : List X) → length xs ≡ 0 → xs ≡ []
no-items [] e = refl
no-items (x ∷ xs) e = absurd (omega arith)

pub map-last : {X Y : Type 0} (f : X → Y) (xs : List X) (x : X) → map f (xs ++ x ∷ []) ≡ map f xs ++ f x ∷ []
map-last f [] x = refl
map-last f (y ∷ xs) x = ap (λ ys. f y ∷ ys) (map-last f xs x)

rows-first : (rows : List ℤ) (n words : ℕ) → length rows ≡ suc n * words → words ≤ length rows
rows-first rows n words e = let s = suc-mul n words in omega arith

pub rows-rest : (rows : List ℤ) (n words : ℕ) → length rows ≡ suc n * words → length (drop words rows) ≡ n * words
rows-rest rows n words e = let s = suc-mul n words in let l = length-drop words rows in omega arith

-- the last child has its row and its decisions after those of the others
shown-last : (words : ℕ) (cs : List Child) (c : Child) (rows row : List ℤ) (paths path : List ℕ) → length rows ≡ length cs * words → length row ≡ words → length paths ≡ depths_of cs → length path ≡ c.depth
    → shown_subs words (cs ++ c ∷ []) (rows ++ row) (paths ++ path) ≡ shown_subs words cs rows paths ++ shown_sub c row path ∷ []
shown-last words [] c rows row paths path a b d e =
    let no-rows : rows ≡ [] = no-items rows (omega arith) in
    let no-paths : paths ≡ [] = no-items paths d in
    let one : take words (rows ++ row) ≡ row = ap (λ rs. take words (rs ++ row)) no-rows ∙ take_all words row (omega arith) in
    let two : take c.depth (paths ++ path) ≡ path = ap (λ ps. take c.depth (ps ++ path)) no-paths ∙ take_all c.depth path (omega arith) in
    ap (λ r. shown_sub c r (take c.depth (paths ++ path)) ∷ []) one ∙ ap (λ p. shown_sub c row p ∷ []) two
shown-last words (x ∷ cs) c rows row paths path a b d e =
    let low : words ≤ length rows = rows-first rows (length cs) words a in
    let deep : x.depth ≤ length paths = omega arith in
    let more-rows = rows-rest rows (length cs) words a in
    let more-paths : length (drop x.depth paths) ≡ depths_of cs = (let l = length-drop x.depth paths in omega arith) in
    let ih = shown-last words cs c (drop words rows) row (drop x.depth paths) path more-rows b more-paths e in
    ap (λ r. shown_sub x r (take x.depth (paths ++ path)) ∷ shown_subs words (cs ++ c ∷ []) (drop words (rows ++ row)) (drop x.depth (paths ++ path))) (take-append-le words rows row low)
    ∙ (ap (λ p. shown_sub x (take words rows) p ∷ shown_subs words (cs ++ c ∷ []) (drop words (rows ++ row)) (drop x.depth (paths ++ path))) (take-append-le x.depth paths path deep)
    ∙ (ap (λ r. shown_sub x (take words rows) (take x.depth paths) ∷ shown_subs words (cs ++ c ∷ []) r (drop x.depth (paths ++ path))) (drop-append-le words rows row low)
    ∙ (ap (λ p. shown_sub x (take words rows) (take x.depth paths) ∷ shown_subs words (cs ++ c ∷ []) (drop words rows ++ row) p) (drop-append-le x.depth paths path deep)
    ∙ ap (λ ss. shown_sub x (take words rows) (take x.depth paths) ∷ ss) ih)))

-- the node that is kept
pub record IsKeptNode (words : ℕ) (o : Option DdNode) : Type 0 where
  pub node : DdNode
  pub is : o ≡ Some node
  pub exact : node.exact ≡ true
  pub cells : length node.row ≡ words

pub kept-node : (words : ℕ) (o : Option DdNode) → MayKeep words o → IsKeptNode words o
kept-node words None h = absurd h
kept-node words (Some node) h = record { node = node; is = refl; exact = h.0; cells = h.1 }

of-node : {Y : Type 0} (f : DdNode → Y) (o : Option DdNode) (n : DdNode) (y : Y) → o ≡ Some n → option_map f o ≡ Some y → f n ≡ y
of-node f o n y at e = same-Some (f n) y (sym (ap (option_map f) at) ∙ e)

pub row-long : (words : ℕ) (o : Option DdNode) (row : List ℤ) → MayKeep words o → option_map (λ (n : DdNode). n.row) o ≡ Some row → length row ≡ words
row-long words o row h e = let k = kept-node words o h in sym (ap (λ r. length r) (of-node (λ (n : DdNode). n.row) o k.node row k.is e)) ∙ k.cells

-- what is seen, by the fields
abbrev pub seen_as : ℕ → ℕ → ℕ → ℕ → ℕ → List Child → List ℤ → List ℕ → Option ℤ → List ℕ → ChildrenView
seen_as width words vars wide room places rows paths found decisions = record {
  places = map child_place places;
  subs = shown_subs words places rows paths;
  found = shown_solution found decisions;
  width = width;
  vars = vars;
  words = words;
  wide = wide;
  room = room;
}

pub seen-kept : (d : DdLayers) (width words vars wide room : ℕ) (places : List Child) (rows : List ℤ) (paths : List ℕ) (found : Option ℤ) (decisions : List ℕ) (c : Child) (row new-rows : List ℤ) (new-paths : List ℕ)
    → MayKeep words (node_at d c.depth c.node) → length rows ≡ length places * words → length paths ≡ depths_of places
    → option_map (λ (n : DdNode). n.value) (node_at d c.depth c.node) ≡ Some c.value → option_map (λ (n : DdNode). n.row) (node_at d c.depth c.node) ≡ Some row → new-rows ≡ rows ++ row
    → option_map (λ (n : DdNode). paths ++ n.path) (node_at d c.depth c.node) ≡ Some new-paths → length new-paths ≡ length paths + c.depth
    → seen_as width words vars wide room (places ++ c ∷ []) new-rows new-paths found decisions ≡ with_child d (child_place c) (seen_as width words vars wide room places rows paths found decisions)
seen-kept d width words vars wide room places rows paths found decisions c row new-rows new-paths h a b value-is row-is rows-are paths-are long =
    let o = node_at d c.depth c.node in
    let k = kept-node words o h in
    let value = of-node (λ (n : DdNode). n.value) o k.node c.value k.is value-is in
    let own-row : k.node.row ≡ row = of-node (λ (n : DdNode). n.row) o k.node row k.is row-is in
    let all-paths : paths ++ k.node.path ≡ new-paths = of-node (λ (n : DdNode). paths ++ n.path) o k.node new-paths k.is paths-are in
    let deep : length k.node.path ≡ c.depth = (let l = length-append paths k.node.path in let m = ap (λ p. length p) all-paths in omega arith) in
    let child : shown_sub c row k.node.path ≡ child_from d (child_place c) =
    ap (λ r. shown_sub c r k.node.path) (sym own-row) ∙ (ap (λ v. record { decisions = k.node.path; row = k.node.row; value = v; bound = c.bound }) (sym value) ∙ ap (λ (o : Option DdNode). with_bound o c.bound) (sym k.is)) in
    let subs : shown_subs words (places ++ c ∷ []) new-rows new-paths ≡ shown_subs words places rows paths ++ child_from d (child_place c) ∷ [] =
    ap (λ r. shown_subs words (places ++ c ∷ []) r new-paths) rows-are ∙ (ap (λ p. shown_subs words (places ++ c ∷ []) (rows ++ row) p) (sym all-paths)
    ∙ (shown-last words places c rows row paths k.node.path a (row-long words o row h row-is) b deep ∙ ap (λ s. shown_subs words places rows paths ++ s ∷ []) child)) in
    ap (λ ps. record (seen_as width words vars wide room (places ++ c ∷ []) new-rows new-paths found decisions) { places = ps }) (map-last child_place places c)
    ∙ ap (λ ss. record (seen_as width words vars wide room places rows paths found decisions) { places = map child_place places ++ child_place c ∷ []; subs = ss }) subs

-- Room.

pub depths-most : (vars : ℕ) (cs : List Child) → Each (λ (c : Child). c.depth ≤ vars) cs → depths_of cs ≤ length cs * vars
depths-most vars [] h = omega arith
depths-most vars (c ∷ cs) h = let ih = depths-most vars cs h.1 in let one = h.0 in let s = suc-mul (length cs) vars in let same : length (c ∷ cs) * vars ≡ suc (length cs) * vars = refl in omega arith

pub room-for-row : (words n room have hold : ℕ) → have ≡ n * words → n < room → room * words ≤ hold → have + words ≤ hold
room-for-row words n room have hold e less h = let s = suc-mul n words in let m : suc n * words ≤ room * words = mul-le-mul_right words (omega arith) in omega arith

pub room-for-path : (vars depth room hold : ℕ) (cs : List Child) (have : ℕ) → have ≡ depths_of cs → Each (λ (c : Child). c.depth ≤ vars) cs → depth ≤ vars → length cs < room → room * vars ≤ hold → have + depth ≤ hold
room-for-path vars depth room hold cs have e each deep less h =
    let most = depths-most vars cs each in
    let s = suc-mul (length cs) vars in
    let m : suc (length cs) * vars ≤ room * vars = mul-le-mul_right vars (omega arith) in
    omega arith

depths-last : (cs : List Child) (c : Child) → depths_of (cs ++ c ∷ []) ≡ depths_of cs + c.depth
depths-last [] c = omega arith
depths-last (x ∷ cs) c = let ih = depths-last cs c in omega arith

each-last : {X : Type 0} (P : X → Type 0) (xs : List X) (x : X) → Each P xs → P x → Each P (xs ++ x ∷ [])
each-last P [] x h p = (p, tt)
each-last P (y ∷ xs) x h p = (h.0, each-last P xs x h.1 p)

pub has-one-more : (words vars room places_room rows_room paths_room : ℕ) (places : List Child) (rows : List ℤ) (paths decisions path : List ℕ) → HasChildren words vars room places places_room rows rows_room paths paths_room decisions path
    → (c : Child) (row new-rows : List ℤ) (new-paths new-path : List ℕ) (p' r' t' : ℕ) → length places < room → c.depth ≤ vars → length row ≡ words → new-rows ≡ rows ++ row → length new-paths ≡ length paths + c.depth → length new-path ≡ vars
    → places_room ≤ p' → rows_room ≤ r' → paths_room ≤ t' → HasChildren words vars room (places ++ c ∷ []) p' new-rows r' new-paths t' decisions new-path
has-one-more words vars room places_room rows_room paths_room places rows paths decisions path h c row new-rows new-paths new-path p' r' t' less deep long rows-are paths-are path-is pr rr tr =
    let a = h.places_hold in let b = h.rows_hold in let d = h.paths_hold in let e = h.rows_are in let f = h.paths_are in
    let one = length-append places (c ∷ []) in
    let lr = length-append rows row in
    let lr' = ap (λ r. length r) rows-are in
    let s = suc-mul (length places) words in
    let count : length (places ++ c ∷ []) ≡ suc (length places) = omega arith in
    let times : length (places ++ c ∷ []) * words ≡ suc (length places) * words = ap (λ n. n * words) count in
    let all = depths-last places c in
    record {
      few = omega arith;
      room_most = h.room_most;
      vars_most = h.vars_most;
      places_hold = omega arith;
      rows_hold = omega arith;
      paths_hold = omega arith;
      rows_are = omega arith;
      paths_are = omega arith;
      depths = each-last (λ (c : Child). c.depth ≤ vars) places c h.depths deep;
      decisions_are = h.decisions_are;
      path_is = path-is;
    }

-- a buffer that was written keeps its length
pub rewritten-length : (len vars : ℕ) (new old : List ℕ) → length new ≡ length old → length old ≡ len → length old ≡ vars → length (take len (new ++ drop (length new) old)) ≡ vars
rewritten-length len vars new old e f g =
    let l = length-append new (drop (length new) old) in
    length-take-le len (new ++ drop (length new) old) (omega arith) ∙ omega arith
