-- The nodes of a layer with their arcs, one node more.
use Rattle.std.proofs.Common.{◌≡◌, ℕ, zero, suc, ◌+◌, ◌<◌, ◌≤◌, ℤ, Bool, List, [], ◌∷◌, ◌++◌, length, take, drop, set, get_or, append_assoc, append-nil, length-append, refl, sym, ap, ap₂, subst, ◌∙◌, arith}
use Rattle.std.proofs.lemmas.List.{take_more, drop_more, set_at, length-take-le}
use Rattle.std.proofs.Math.Seq.{get_or-append_seam}
use Rattle.dp_model.specs.Decisions.{below}
use Rattle.dp_model.specs.Dp.{Dp}
use Rattle.dp_model.specs.Lists.{Each}
use Rattle.layer_candidates.specs.declared.member.Member.{Member}
use Rattle.layer_candidates.specs.Members.{member_at, IsMemberOf}
use Rattle.layer_candidates.specs.HeldRows.{held_row, HasExchanged}
use Rattle.layer_candidates.specs.Steps.{IsReachedWithin}
use Rattle.row_region.specs.Region.{RegionView, IsLive}
use Rattle.layer_nodes.specs.declared.node.Node.{Node}
use Rattle.layer_candidates.specs.declared.way.Way.{Way}
use Rattle.layer_candidates.specs.Extending.{HasExtended, AreExtended}
use Rattle.layer_candidates.proofs.Extended.{members-more}
use Rattle.layer_candidates.proofs.HeldRows.{each-here, held-same, live-same, beside-same}
use Rattle.dp_laws.specs.declared.arc.DdArc.{DdArc}
use Rattle.layer_nodes.specs.Expanding.{member_of, members_from, node_in, trials_by, trials_at, trials_of, spanned, all_spanned, AreTried}

pub length-members : (i : ℕ) (nodes : List Node) → length (members_from i nodes) ≡ length nodes
length-members i [] = refl
length-members i (node ∷ nodes) = (let rest = length-members (i + 1) nodes in omega arith)

-- none of them is reached by a step after the n-th
pub members-within : (n i : ℕ) (nodes : List Node) → i + length nodes ≤ n + 1 → Each (IsReachedWithin n) (members_from i nodes)
members-within n i [] fit = tt
members-within n i (node ∷ nodes) fit = ((omega arith), members-within n (i + 1) nodes (omega arith))

member-from : (i : ℕ) (nodes : List Node) (j : ℕ) (m : Member) (d : Node) → j < length nodes → get_or (members_from i nodes) j m ≡ member_of (get_or nodes j d) (i + j)
member-from i [] j m d less = absurd (omega arith)
member-from i (node ∷ nodes) zero m d less = ap (member_of node) (let e : i ≡ i + 0 = omega arith in e)
member-from i (node ∷ nodes) (suc j) m d less =
    member-from (i + 1) nodes j m d (omega arith) ∙ ap (member_of (get_or nodes j d)) (let e : i + 1 + j ≡ i + suc j = omega arith in e)

pub member-is : (nodes : List Node) (j : ℕ) → j < length nodes → member_at (members_from 0 nodes) j ≡ member_of (node_in nodes j) j
member-is nodes j less = member-from 0 nodes j _ _ less ∙ ap (member_of (node_in nodes j)) (let e : 0 + j ≡ j = omega arith in e)

module _ (dp : Dp) (k : ℕ) (held : ℕ → List ℤ) where
  pub trials-append : (xs ys : List Node) → trials_of dp k held (xs ++ ys) ≡ trials_of dp k held xs ++ trials_of dp k held ys
  trials-append [] ys = refl
  trials-append (x ∷ xs) ys =
      ap (λ l. trials_at dp k held x ++ l) (trials-append xs ys)
      ∙ sym (append_assoc (trials_at dp k held x) (trials_of dp k held xs) (trials_of dp k held ys))

  pub trials-next : (nodes : List Node) (i : ℕ) → i < length nodes
      → trials_of dp k held (take (i + 1) nodes) ≡ trials_of dp k held (take i nodes) ++ trials_at dp k held (node_in nodes i)
  trials-next nodes i less =
      let n = node_in nodes i in
      ap (trials_of dp k held) (take_more nodes i _ less) ∙ (trials-append (take i nodes) (n ∷ [])
      ∙ ap (λ l. trials_of dp k held (take i nodes) ++ l) (append-nil (trials_at dp k held n)))

  pub length-spanned : (first : ℕ) (nodes : List Node) → length (all_spanned dp k held first nodes) ≡ length nodes
  length-spanned first [] = refl
  length-spanned first (node ∷ nodes) = (let rest = length-spanned (first + length (trials_at dp k held node)) nodes in omega arith)

  spanned-append : (first : ℕ) (xs ys : List Node) → all_spanned dp k held first (xs ++ ys)
      ≡ all_spanned dp k held first xs ++ all_spanned dp k held (first + length (trials_of dp k held xs)) ys
  spanned-append first [] ys = ap (λ n. all_spanned dp k held n ys) (let e : first ≡ first + 0 = omega arith in e)
  spanned-append first (x ∷ xs) ys =
      let mine = trials_at dp k held x in
      let sum : first + length mine + length (trials_of dp k held xs) ≡ first + length (mine ++ trials_of dp k held xs) =
      (let e = length-append mine (trials_of dp k held xs) in omega arith) in
      ap (λ l. spanned first (length mine) x ∷ l)
      (spanned-append (first + length mine) xs ys
      ∙ ap (λ n. all_spanned dp k held (first + length mine) xs ++ all_spanned dp k held n ys) sum)

  module _ (nodes now : List Node) (i : ℕ) (less : i < length nodes) (is : now ≡ all_spanned dp k held 0 (take i nodes) ++ drop i nodes) where
    front : length (all_spanned dp k held 0 (take i nodes)) ≡ i
    front = length-spanned 0 (take i nodes) ∙ length-take-le i nodes (omega arith)

    apart : now ≡ all_spanned dp k held 0 (take i nodes) ++ node_in nodes i ∷ drop (i + 1) nodes
    apart = is ∙ ap (λ l. all_spanned dp k held 0 (take i nodes) ++ l) (drop_more nodes i _ less)

    -- the node that is next is as it was
    pub node-next : node_in now i ≡ node_in nodes i
    node-next =
        ap (λ l. node_in l i) apart
        ∙ (ap (λ j. node_in (all_spanned dp k held 0 (take i nodes) ++ node_in nodes i ∷ drop (i + 1) nodes) j) (sym front)
        ∙ get_or-append_seam (all_spanned dp k held 0 (take i nodes)) (node_in nodes i) (drop (i + 1) nodes) _)

    -- as a member
    pub member-next : member_at (members_from 0 nodes) i ≡ member_of (node_in now i) i
    member-next = member-is nodes i less ∙ ap (λ n. member_of n i) (sym node-next)

    pub spanned-next : (later : List Node) (first count : ℕ) (node : Node) → first ≡ length (trials_of dp k held (take i nodes)) → count ≡ length (trials_at dp k held (node_in now i))
        → node ≡ spanned first count (node_in now i) → later ≡ set now i node → later ≡ all_spanned dp k held 0 (take (i + 1) nodes) ++ drop (i + 1) nodes
    spanned-next later first count node f c h g =
        let n = node_in nodes i in
        let S = all_spanned dp k held 0 (take i nodes) in
        let x = spanned (length (trials_of dp k held (take i nodes))) (length (trials_at dp k held n)) n in
        let same : node ≡ x = h ∙ (ap₂ (λ a b. spanned a b (node_in now i)) f c ∙ ap (λ m. spanned (length (trials_of dp k held (take i nodes))) (length (trials_at dp k held m)) m) node-next) in
        let more : all_spanned dp k held 0 (take (i + 1) nodes) ≡ S ++ x ∷ [] =
        ap (all_spanned dp k held 0) (take_more nodes i _ less) ∙ (spanned-append 0 (take i nodes) (n ∷ [])
        ∙ ap (λ f. S ++ all_spanned dp k held f (n ∷ [])) (let e : 0 + length (trials_of dp k held (take i nodes)) ≡ length (trials_of dp k held (take i nodes)) = omega arith in e)) in
        g ∙ (ap₂ (λ l y. set l i y) apart same ∙ (set_at S n (drop (i + 1) nodes) x i front
        ∙ (sym (append_assoc S (x ∷ []) (drop (i + 1) nodes)) ∙ ap (λ l. l ++ drop (i + 1) nodes) (sym more))))

    -- its trials
    pub tried-next : (s : List ℤ) (row : ℕ → List ℤ) (count : ℕ) (marks : List Bool) (arcs : List DdArc) → s ≡ held (node_in now i).row
        → AreTried dp k row count (trials_of dp k held (take i nodes) ++ trials_by dp k s (node_in now i).exact (below (dp.choices k))) marks arcs
        → AreTried dp k row count (trials_of dp k held (take (i + 1) nodes)) marks arcs
    tried-next s row count marks arcs is h =
        subst (λ ts. AreTried dp k row count ts marks arcs)
        (ap (λ r. trials_of dp k held (take i nodes) ++ trials_by dp k r (node_in now i).exact (below (dp.choices k))) is
        ∙ (ap (λ n. trials_of dp k held (take i nodes) ++ trials_at dp k held n) node-next ∙ sym (trials-next nodes i less))) h

-- the nodes of a layer whose rows the region has
module _ (dp : Dp) (k : ℕ) (region : RegionView) (nodes now : List Node) (i : ℕ) (less : i < length nodes) (is : now ≡ all_spanned dp k (held_row region) 0 (take i nodes) ++ drop i nodes) where
  this : member_at (members_from 0 nodes) i ≡ member_of (node_in now i) i
  this = member-next dp k (held_row region) nodes now i less is

  pub next-member : Each (IsMemberOf dp k region) (members_from 0 nodes) → IsMemberOf dp k region (member_of (node_in now i) i)
  next-member all = subst (IsMemberOf dp k region) this (each-here (IsMemberOf dp k region) (members_from 0 nodes) i _ all (let e = length-members 0 nodes in omega arith))

  -- the ways of one node more
  pub extended-next : (live : ℕ) (s : List ℤ) (row row2 : ℕ → List ℤ) (ways ways2 : List Way) (hashes heads next hashes2 heads2 next2 : List ℕ)
      → AreExtended dp k i region live (members_from 0 nodes) row ways hashes heads next → s ≡ held_row region (node_in now i).row
      → HasExtended dp k i s (node_in now i).value (below (dp.choices k)) live row ways row2 ways2 hashes2 heads2 next2
      → AreExtended dp k (i + 1) region live (members_from 0 nodes) row2 ways2 hashes2 heads2 next2
  extended-next live s row row2 ways ways2 hashes heads next hashes2 heads2 next2 h same e =
      members-more dp k i region live (members_from 0 nodes) _ s row row2 ways ways2 hashes heads next hashes2 heads2 next2 h
      (let e = length-members 0 nodes in omega arith) (same ∙ ap (λ (m : Member). held_row region m.row) (sym this))
      (subst (λ (m : Member). HasExtended dp k m.step s m.value (below (dp.choices k)) live row ways row2 ways2 hashes2 heads2 next2) (sym this) e)

  -- its row stays while other rows are taken
  pub row-stays : (all : Each (IsMemberOf dp k region) (members_from 0 nodes)) (new : RegionView) (places : List ℕ) → HasExchanged region [] new places
      → IsLive new (node_in now i).row × (held_row new (node_in now i).row ≡ held_row region (node_in now i).row)
  row-stays all new places taken =
      let p = (node_in now i).row in
      let live = (next-member all).held.live in
      let same = beside-same region new [] places taken (p ∷ []) (live, tt) (tt, tt) in
      ((live-same region new (p ∷ []) same (live, tt)).0, held-same region new p live same.0)
