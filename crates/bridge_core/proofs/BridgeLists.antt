-- The bridges of the fields of a record.
use Rattle.std.proofs.Common.{◌≡◌, ℕ, ◌+◌, true, List, [], ◌∷◌, Some, refl, sym, ap, subst, one-add, inl, inr}
use Rattle.std.specs.Prelude.{bytes_eq}
use Rattle.texts.proofs.Conjunction.{second}
use Rattle.doc_values.specs.Documents.{DocTree, DocTrees, no_docs, more_docs}
use Rattle.doc_values.specs.Types.{TyTree, FieldTrees, no_fields, more_fields}
use Rattle.doc_values.specs.Typing.{has, has_fields, lookup_field}
use Rattle.doc_values.proofs.FieldPlaces.{lookup_field_cases}
use Rattle.doc_values.proofs.Lists.{docs_of-doc_list}
use Rattle.edit_module.specs.Action.{doc_at, put_at}
use Rattle.bridge_core.specs.Bridges.{BridgeTree, same, BridgeTrees, no_bridges, more_bridges, bridges_of, bridge_list, bridge_at, put_bridge_at, same_each}
use Rattle.bridge_core.specs.Spans.{Spans, SpanFields}

pub bridges-of-list : (bs : BridgeTrees) → bridges_of (bridge_list bs) ≡ bs
bridges-of-list no_bridges = refl
bridges-of-list (more_bridges b bs) = ap (more_bridges b) (bridges-of-list bs)

pub list-of-bridges : (bs : List BridgeTree) → bridge_list (bridges_of bs) ≡ bs
list-of-bridges [] = refl
list-of-bridges (b ∷ bs) = ap (λ cs. b ∷ cs) (list-of-bridges bs)

-- each document is the same as itself
pub same-fields : (fs : FieldTrees) (ds : DocTrees) → has_fields fs ds ≡ true → SpanFields (same_each ds) fs ds ds
same-fields no_fields no_docs h = tt
same-fields no_fields (more_docs d ds) h = absurd cc
same-fields (more_fields n t fs) no_docs h = absurd cc
same-fields (more_fields n t fs) (more_docs d ds) h = (refl, same-fields fs ds (second (has t d) (has_fields fs ds) h))

-- the bridge of a field
pub field-spans : (bs : BridgeTrees) (fs : FieldTrees) (ds es : DocTrees) (f : List ℕ) (s : ℕ × TyTree) → SpanFields bs fs ds es → lookup_field fs f ≡ Some s
    → Spans (bridge_at bs s.0) s.1 (doc_at ds s.0) (doc_at es s.0)
field-spans no_bridges no_fields no_docs no_docs f s h e = absurd cc
field-spans (more_bridges b bs) (more_fields n t fs) (more_docs d ds) (more_docs v es) f s h e =
    elim (lookup_field_cases (bytes_eq n f) t (lookup_field fs f) s e) [
      | inl is ↦ subst (λ (x : ℕ × TyTree). Spans (bridge_at (more_bridges b bs) x.0) x.1 (doc_at (more_docs d ds) x.0) (doc_at (more_docs v es) x.0)) (sym is) h.0
      | inr k ↦
          let rest : Spans (bridge_at bs k.0.0) k.0.1 (doc_at ds k.0.0) (doc_at es k.0.0) = field-spans bs fs ds es f k.0 h.1 k.1 in
          subst (λ (x : ℕ × TyTree). Spans (bridge_at (more_bridges b bs) x.0) x.1 (doc_at (more_docs d ds) x.0) (doc_at (more_docs v es) x.0)) (sym k.2) (rw one-add rest)
    ]
field-spans _ _ _ _ f s h e = absurd h

-- other contents of a field, and their bridge
pub field-set : (bs : BridgeTrees) (fs : FieldTrees) (ds es : DocTrees) (f : List ℕ) (s : ℕ × TyTree) (c : BridgeTree) (x y : DocTree) → SpanFields bs fs ds es → lookup_field fs f ≡ Some s → Spans c s.1 x y
    → SpanFields (put_bridge_at bs s.0 c) fs (put_at ds s.0 x) (put_at es s.0 y)
field-set no_bridges no_fields no_docs no_docs f s c x y h e k = absurd cc
field-set (more_bridges b bs) (more_fields n t fs) (more_docs d ds) (more_docs v es) f s c x y h e k =
    elim (lookup_field_cases (bytes_eq n f) t (lookup_field fs f) s e) [
      | inl is ↦
          let here : Spans c t x y = subst (λ (z : ℕ × TyTree). Spans c z.1 x y) is k in
          subst (λ (z : ℕ × TyTree). SpanFields (put_bridge_at (more_bridges b bs) z.0 c) (more_fields n t fs) (put_at (more_docs d ds) z.0 x) (put_at (more_docs v es) z.0 y)) (sym is)
          (rw (bridges-of-list bs, docs_of-doc_list ds, docs_of-doc_list es) (here, h.1))
      | inr q ↦
          let there : Spans c q.0.1 x y = subst (λ (z : ℕ × TyTree). Spans c z.1 x y) q.2 k in
          let rest = field-set bs fs ds es f q.0 c x y h.1 q.1 there in
          subst (λ (z : ℕ × TyTree). SpanFields (put_bridge_at (more_bridges b bs) z.0 c) (more_fields n t fs) (put_at (more_docs d ds) z.0 x) (put_at (more_docs v es) z.0 y)) (sym q.2)
          (rw one-add (h.0, rest))
    ]
field-set _ _ _ _ f s c x y h e k = absurd h

-- a field of the far record alone
pub far-field-set : (bs : BridgeTrees) (fs : FieldTrees) (ds es : DocTrees) (f : List ℕ) (s : ℕ × TyTree) (c : BridgeTree) (y : DocTree) → SpanFields bs fs ds es → lookup_field fs f ≡ Some s → Spans c s.1 (doc_at ds s.0) y
    → SpanFields (put_bridge_at bs s.0 c) fs ds (put_at es s.0 y)
far-field-set no_bridges no_fields no_docs no_docs f s c y h e k = absurd cc
far-field-set (more_bridges b bs) (more_fields n t fs) (more_docs d ds) (more_docs v es) f s c y h e k =
    elim (lookup_field_cases (bytes_eq n f) t (lookup_field fs f) s e) [
      | inl is ↦
          let here : Spans c t d y = subst (λ (z : ℕ × TyTree). Spans c z.1 (doc_at (more_docs d ds) z.0) y) is k in
          subst (λ (z : ℕ × TyTree). SpanFields (put_bridge_at (more_bridges b bs) z.0 c) (more_fields n t fs) (more_docs d ds) (put_at (more_docs v es) z.0 y)) (sym is)
          (rw (bridges-of-list bs, docs_of-doc_list es) (here, h.1))
      | inr q ↦
          let next : Spans c q.0.1 (doc_at (more_docs d ds) (1 + q.0.0)) y = subst (λ (z : ℕ × TyTree). Spans c z.1 (doc_at (more_docs d ds) z.0) y) q.2 k in
          let there : Spans c q.0.1 (doc_at ds q.0.0) y = rw one-add at next in
          let rest = far-field-set bs fs ds es f q.0 c y h.1 q.1 there in
          subst (λ (z : ℕ × TyTree). SpanFields (put_bridge_at (more_bridges b bs) z.0 c) (more_fields n t fs) (more_docs d ds) (put_at (more_docs v es) z.0 y)) (sym q.2)
          (rw one-add (h.0, rest))
    ]
far-field-set _ _ _ _ f s c y h e k = absurd h
