-- A layer is walked, node by node.
use Rattle.std.proofs.Common.{◌≡◌, ◌≢◌, ℕ, zero, suc, ◌+◌, ◌-◌, ◌<◌, ◌≤◌, Bool, true, false, not, cond, ◌&&◌, ◌||◌, List, [], ◌∷◌, ◌++◌, length, map, slice_get, Option, Some, None, is_some, option_map, ◌⊎◌, inl, inr, refl, sym, ◌∙◌, ap, subst, arith, append_assoc, length-append}
use Rattle.std.specs.List.{cons_option}
use Rattle.dp_model.specs.Dp.{Dp}
use Rattle.dp_model.specs.Decisions.{begins}
use Rattle.dp_model.specs.Lists.{Each}
use Rattle.dp_model.proofs.RowLemmas.{nat_eq-self}
use Rattle.dp_laws.specs.Diagrams.Nodes.{DdNode, DdLayers, node_at}
use Rattle.dp_laws.specs.Diagrams.Cutsets.{ChildAt, bound_of, with_bound, is_border, leaves, passes, outermost, child_from, path_at}
use Rattle.dp_laws.proofs.Diagrams.Places.{same-Some, slice_get-append, slice_get-last}
use Rattle.relaxed_dd.specs.Shown.{layer_in, last_of}
use Rattle.exact_cutset.specs.Seen.{ChildrenView}
use Rattle.exact_cutset.specs.Walking.{IsStem, IsWalkable, border_at, with_border, borders_left, is_free, AreMarks, HasLooked, IsTakenNode}
use Rattle.exact_cutset.proofs.Kept.{map-last}
use Rattle.exact_cutset.proofs.Lefts.{left-from}
use Rattle.exact_cutset.proofs.Taken.{node-here}
use Rattle.exact_cutset.proofs.Passing.{passes-last, outermost-kept, outermost-left-out, passes-front, each-short-last}

begins-self : (p : List ℕ) → begins p p ≡ true
begins-self [] = refl
begins-self (a ∷ p) = let same = nat_eq-self a in let rest = begins-self p in rw same rest

-- a node that is there stands within its layer
some-within : {X : Type 0} (xs : List X) (j : ℕ) (x : X) → slice_get xs j ≡ Some x → j < length xs
some-within [] j x e = absurd (let none : None ≡ Some x = e in cc)
some-within (y ∷ xs) zero x e = omega arith
some-within (y ∷ xs) (suc j) x e = let rest = some-within xs j x e in omega arith

pub place-within : (d : DdLayers) (depth j : ℕ) (x : DdNode) → node_at d depth j ≡ Some x → j < length (layer_in d depth)
place-within d depth j x e = some-within (layer_in d depth) j x (sym (node-here d depth j) ∙ e)

-- a border's child has the node's path
abbrev HasPath : DdLayers → DdNode → Option ChildAt → Type 0
HasPath d x None = Unit {0}
HasPath d x (Some c) = path_at d c ≡ x.path

border-path : (dp : Dp) (d : DdLayers) (depth i : ℕ) (x : DdNode) → node_at d depth i ≡ Some x → HasPath d x (border_at dp d depth i x)
border-path dp d depth i x at =
    elim (is_border (layer_in d (depth + 1)) x) as (λ b. HasPath d x (cond b (option_map (λ bound. record { depth = depth; place = i; bound = bound }) (bound_of dp depth x)) None)) [
      | true ↦ elim (bound_of dp depth x) as (λ o. HasPath d x (option_map (λ bound. record { depth = depth; place = i; bound = bound }) o)) [
        | None ↦ tt
        | Some bound ↦ ap (λ (o : Option DdNode). (with_bound o bound).decisions) at
      ]
      | false ↦ tt
    ]

-- an inexact node is no border
inexact-none : (dp : Dp) (d : DdLayers) (depth i : ℕ) (x : DdNode) → x.exact ≡ false → border_at dp d depth i x ≡ None
inexact-none dp d depth i x e =
    let no : is_border (layer_in d (depth + 1)) x ≡ false = ap (λ b. b && leaves (layer_in d (depth + 1)) x.arcs) e in
    ap (λ b. cond b (option_map (λ bound. record { depth = depth; place = i; bound = bound }) (bound_of dp depth x)) None) no

-- What a node leaves of the borders.

skipped : (d : DdLayers) (cs rest : List ChildAt) (x : DdNode) (o : Option ChildAt) → HasPath d x o → passes (path_at d) cs x.path ≡ true → outermost (path_at d) cs (cons_option o rest) ≡ outermost (path_at d) cs rest
skipped d cs rest x None h e = refl
skipped d cs rest x (Some c) h e = outermost-left-out (path_at d) cs rest c (ap (passes (path_at d) cs) h ∙ e)

-- the children with that of a border
abbrev pub and_border : List ChildAt → Option ChildAt → List ChildAt
and_border cs None = cs
and_border cs (Some c) = cs ++ c ∷ []

taken-whole : (d : DdLayers) (cs rest : List ChildAt) (x : DdNode) (o : Option ChildAt) → HasPath d x o → passes (path_at d) cs x.path ≡ false → and_border cs o ++ outermost (path_at d) (and_border cs o) rest ≡ cs ++ outermost (path_at d) cs (cons_option o rest)
taken-whole d cs rest x None h e = refl
taken-whole d cs rest x (Some c) h e =
    append_assoc cs (c ∷ []) (outermost (path_at d) (cs ++ c ∷ []) rest)
    ∙ ap (λ l. cs ++ l) (sym (outermost-kept (path_at d) cs rest c (ap (passes (path_at d) cs) h ∙ e)))

-- a path that differs from that of the node
others-pass : (d : DdLayers) (cs : List ChildAt) (x : DdNode) (o : Option ChildAt) (q : List ℕ) → HasPath d x o → begins x.path q ≡ false → passes (path_at d) (and_border cs o) q ≡ passes (path_at d) cs q
others-pass d cs x None q h e = refl
others-pass d cs x (Some c) q h e =
    let no : begins (path_at d c) q ≡ false = ap (λ p. begins p q) h ∙ e in
    passes-last (path_at d) cs c q ∙ (ap (λ v. passes (path_at d) cs q || v) no ∙ or-none (passes (path_at d) cs q))
  where
    or-none : (a : Bool) → (a || false) ≡ a
    or-none true = refl
    or-none false = refl

-- its own path
own-passes : (d : DdLayers) (cs : List ChildAt) (x : DdNode) (o : Option ChildAt) → HasPath d x o → passes (path_at d) cs x.path ≡ false → passes (path_at d) (and_border cs o) x.path ≡ is_some o
own-passes d cs x None h e = e
own-passes d cs x (Some c) h e =
    let yes_own : begins (path_at d c) x.path ≡ true = ap (λ p. begins p x.path) h ∙ begins-self x.path in
    passes-last (path_at d) cs c x.path ∙ (ap (λ v. v || begins (path_at d c) x.path) e ∙ yes_own)

short-border : (d : DdLayers) (depth : ℕ) (cs : List ChildAt) (x : DdNode) (o : Option ChildAt) → HasPath d x o → length x.path ≡ depth → Each (λ c. length (path_at d c) ≤ depth) cs → Each (λ c. length (path_at d c) ≤ depth) (and_border cs o)
short-border d depth cs x None h long short = short
short-border d depth cs x (Some c) h long short = each-short-last (path_at d) cs c depth short (let e = ap (λ p. length p) h in omega arith)

few-border : (cs : List ChildAt) (o : Option ChildAt) → length (and_border cs o) ≤ length cs + 1
few-border cs None = omega arith
few-border cs (Some c) = let l = length-append cs (c ∷ []) in omega arith

-- How one node changes what was walked: the children, and whether the node is free.

pub record IsStepOf (dp : Dp) (d : DdLayers) (depth i : ℕ) (x : DdNode) (before cs new : List ChildAt) (free : Bool) : Type 0 where
  pub whole : new ++ outermost (path_at d) new (borders_left dp d depth (i + 1)) ≡ cs ++ outermost (path_at d) cs (borders_left dp d depth i)
  pub others : (q : List ℕ) → (x.exact ≡ true → begins x.path q ≡ false) → passes (path_at d) new q ≡ passes (path_at d) cs q
  pub own : x.exact ≡ true → free ≡ is_free d new x.path
  pub short : Each (λ c. length (path_at d c) ≤ depth) cs → Each (λ c. length (path_at d c) ≤ depth) new
  pub few : length new ≤ length cs + 1

step-inexact : (dp : Dp) (d : DdLayers) (depth i : ℕ) (x : DdNode) (before cs : List ChildAt) (free : Bool) → node_at d depth i ≡ Some x → x.exact ≡ false → IsStepOf dp d depth i x before cs cs free
step-inexact dp d depth i x before cs free at e =
    let left = left-from dp d depth i x at ∙ ap (λ o. cons_option o (borders_left dp d depth (i + 1))) (inexact-none dp d depth i x e) in
    record {
      whole = ap (λ l. cs ++ outermost (path_at d) cs l) (sym left);
      others = λ q other. refl;
      own = λ exact. absurd (let clash : false ≡ true = sym e ∙ exact in cc);
      short = λ h. h;
      few = omega arith;
    }

step-exact : (dp : Dp) (d : DdLayers) (depth i : ℕ) (x : DdNode) (before cs : List ChildAt) (clear : Bool) → node_at d depth i ≡ Some x → x.exact ≡ true → length x.path ≡ depth → clear ≡ is_free d cs x.path
    → IsStepOf dp d depth i x before cs (cond clear (and_border cs (border_at dp d depth i x)) cs) (clear && not (is_some (border_at dp d depth i x)))
step-exact dp d depth i x before cs clear at exact long e =
    let o = border_at dp d depth i x in
    let rest = borders_left dp d depth (i + 1) in
    let path = border-path dp d depth i x at in
    let left = left-from dp d depth i x at in
    elim (passes (path_at d) cs x.path) as (λ v. passes (path_at d) cs x.path ≡ v → clear ≡ not v → IsStepOf dp d depth i x before cs (cond clear (and_border cs o) cs) (clear && not (is_some o))) [
      | true ↦ λ p c. subst (λ b. IsStepOf dp d depth i x before cs (cond b (and_border cs o) cs) (b && not (is_some o))) (sym c) (record {
        whole = ap (λ l. cs ++ l) (sym (skipped d cs rest x o path p) ∙ ap (outermost (path_at d) cs) (sym left));
        others = λ q other. refl;
        own = λ _. ap not (sym p);
        short = λ h. h;
        few = omega arith;
      })
      | false ↦ λ p c. subst (λ b. IsStepOf dp d depth i x before cs (cond b (and_border cs o) cs) (b && not (is_some o))) (sym c) (record {
        whole = taken-whole d cs rest x o path p ∙ ap (λ l. cs ++ outermost (path_at d) cs l) (sym left);
        others = λ q other. others-pass d cs x o q path (other exact);
        own = λ _. ap not (sym (own-passes d cs x o path p));
        short = λ h. short-border d depth cs x o path long h;
        few = few-border cs o;
      })
    ] refl e

-- One node more.

stays-at : (marks : List Bool) (free b : Bool) (j : ℕ) → slice_get marks j ≡ Some b → slice_get (marks ++ free ∷ []) j ≡ Some b
stays-at marks free b j e = slice_get-append marks (free ∷ []) j b e

walked-step : (dp : Dp) (d : DdLayers) (wide room depth : ℕ) (before cs new : List ChildAt) (marks : List Bool) (x : DdNode) (free : Bool) → IsWalkable dp d wide room → d.first < depth → depth < last_of d
    → node_at d depth (length marks) ≡ Some x → HasLooked dp d wide depth before cs marks → IsStepOf dp d depth (length marks) x before cs new free → HasLooked dp d wide depth before new (marks ++ free ∷ [])
walked-step dp d wide room depth before cs new marks x free w low high at h s =
    let i = length marks in
    let next : length (marks ++ free ∷ []) ≡ i + 1 = length-append marks (free ∷ []) in
    let others : (j : ℕ) (y : DdNode) → i ≢ j → node_at d depth j ≡ Some y → y.exact ≡ true → passes (path_at d) new y.path ≡ passes (path_at d) cs y.path = (λ j y other aty exact. s.others y.path (λ own. w.apart depth i j x y low high at aty own exact other)) in
    record {
      whole = ap (λ n. new ++ outermost (path_at d) new (borders_left dp d depth n)) next ∙ (s.whole ∙ h.whole);
      ahead = λ j y more aty exact. others j y (λ e. absurd (omega arith)) aty exact ∙ h.ahead j y (omega arith) aty exact;
      marked = λ j y less aty exact. (
          let split : (j < i) ⊎ (j ≡ i) = grind arith in
          elim split as (λ _. slice_get (marks ++ free ∷ []) j ≡ Some (is_free d new y.path)) [
            | inl before ↦ stays-at marks free (is_free d new y.path) j (h.marked j y before aty exact ∙ ap (λ v. Some (not v)) (sym (others j y (λ e. absurd (omega arith)) aty exact)))
            | inr same ↦ (
                let one : x ≡ y = same-Some x y (sym at ∙ (ap (node_at d depth) (sym same) ∙ aty)) in
                let exact-x : x.exact ≡ true = ap (λ (n : DdNode). n.exact) one ∙ exact in
                slice_get-last marks free j (sym same) ∙ ap Some (s.own exact-x ∙ ap (λ (n : DdNode). is_free d new n.path) one))
          ]);
      short = s.short h.short;
      few = (let f = h.few in let g = s.few in omega arith);
    }

-- a node whose stem's mark tells whether it is free
clear-is : (d : DdLayers) (depth : ℕ) (before cs : List ChildAt) (above : List Bool) (x : DdNode) (place : ℕ) (clear : Bool) → (stem : IsStem d depth place x.path) → place < length above → slice_get above place ≡ Some clear
    → AreMarks d (depth - 1) before above → Each (λ c. length (path_at d c) ≤ depth - 1) before → passes (path_at d) cs x.path ≡ passes (path_at d) before x.path → clear ≡ is_free d cs x.path
clear-is d depth before cs above x place clear stem less at marks short same =
    let mark = marks place stem.node less stem.is stem.exact in
    let is : clear ≡ is_free d before stem.node.path = same-Some clear (is_free d before stem.node.path) (sym at ∙ mark) in
    is ∙ ap not (ap (passes (path_at d) before) stem.path_is ∙ (passes-front (path_at d) before (depth - 1) x.path short ∙ sym same))

-- the children in memory
places-with : (d : DdLayers) (o : Option ChildAt) (v : ChildrenView) → (with_border d o v).places ≡ and_border v.places o
places-with d None v = refl
places-with d (Some c) v = refl

subs-with : (d : DdLayers) (o : Option ChildAt) (v : ChildrenView) → v.subs ≡ map (child_from d) v.places → (with_border d o v).subs ≡ map (child_from d) (with_border d o v).places
subs-with d None v e = e
subs-with d (Some c) v e = ap (λ ss. ss ++ child_from d c ∷ []) e ∙ sym (map-last (child_from d) v.places c)

rest-with : (d : DdLayers) (o : Option ChildAt) (v : ChildrenView) → with_border d o v ≡ record v { places = (with_border d o v).places; subs = (with_border d o v).subs }
rest-with d None v = refl
rest-with d (Some c) v = refl

-- the list after one node more
pub record IsFurther (dp : Dp) (d : DdLayers) (wide depth : ℕ) (before : List ChildAt) (marks : List Bool) (old new : ChildrenView) (free : Bool) : Type 0 where
  pub rest : new ≡ record old { places = new.places; subs = new.subs }
  pub subs : new.subs ≡ map (child_from d) new.places
  pub walked : HasLooked dp d wide depth before new.places (marks ++ free ∷ [])

same-list : (dp : Dp) (d : DdLayers) (wide depth : ℕ) (before : List ChildAt) (marks : List Bool) (old new : ChildrenView) (free : Bool) → new ≡ old → old.subs ≡ map (child_from d) old.places → HasLooked dp d wide depth before old.places (marks ++ free ∷ []) → IsFurther dp d wide depth before marks old new free
same-list dp d wide depth before marks old new free e subs walked = subst (λ v. IsFurther dp d wide depth before marks old v free) (sym e) (record { rest = refl; subs = subs; walked = walked })

pub further : (dp : Dp) (d : DdLayers) (wide room depth : ℕ) (before : List ChildAt) (above marks : List Bool) (old new : ChildrenView) (free : Bool) → IsWalkable dp d wide room → d.first < depth → depth < last_of d
    → AreMarks d (depth - 1) before above → length above ≡ length (layer_in d (depth - 1)) → Each (λ c. length (path_at d c) ≤ depth - 1) before → old.subs ≡ map (child_from d) old.places
    → HasLooked dp d wide depth before old.places marks → IsTakenNode dp d depth (length marks) above old new free → IsFurther dp d wide depth before marks old new free
further dp d wide room depth before above marks old new free w low high marked all short subs h t =
    let x = t.node in
    let i = length marks in
    elim x.exact as (λ b. x.exact ≡ b → IsFurther dp d wide depth before marks old new free) [
      | false ↦ λ e. same-list dp d wide depth before marks old new free (t.inexact e) subs (walked-step dp d wide room depth before old.places old.places marks x free w low high t.is h (step-inexact dp d depth i x before old.places free t.is e))
      | true ↦ λ e. (
          let y = t.exact e in
          let o = border_at dp d depth i x in
          let within = place-within d (depth - 1) y.place y.stem.node y.stem.is in
          let less : y.place < length above = omega arith in
          let clear = clear-is d depth before old.places above x y.place y.clear y.stem less y.at marked short (h.ahead i x (omega arith) t.is e) in
          let step = step-exact dp d depth i x before old.places y.clear t.is e (w.exact depth i x low high t.is e).long clear in
          let walked = walked-step dp d wide room depth before old.places (cond y.clear (and_border old.places o) old.places) marks x (y.clear && not (is_some o)) w low high t.is h step in
          let Goal : ChildrenView → Bool → Type 0 = λ v f. IsFurther dp d wide depth before marks old v f in
          let done : Goal (cond y.clear (with_border d o old) old) (y.clear && not (is_some o)) =
          elim y.clear as (λ b. HasLooked dp d wide depth before (cond b (and_border old.places o) old.places) (marks ++ (b && not (is_some o)) ∷ []) → Goal (cond b (with_border d o old) old) (b && not (is_some o))) [
            | true ↦ λ k. record { rest = rest-with d o old; subs = subs-with d o old subs; walked = subst (λ cs. HasLooked dp d wide depth before cs (marks ++ not (is_some o) ∷ [])) (sym (places-with d o old)) k }
            | false ↦ λ k. record { rest = refl; subs = subs; walked = k }
          ] walked in
          subst (λ v. Goal v free) (sym y.new_is) (subst (Goal (cond y.clear (with_border d o old) old)) (sym y.free_is) done))
    ] refl
