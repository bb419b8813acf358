-- Words that begin with a tree have no fault in it, and words have one fault at most. Assumes nothing.
use Rattle.std.proofs.Common.{◌≡◌, ℕ, suc, ◌+◌, ◌<◌, ◌≤◌, List, [], ◌∷◌, ◌++◌, length, get_or, sym, refl, ap, ◌∙◌, subst, inl, inr, ⊎_elim, append_assoc, arith}
use Rattle.correlation.specs.Tables.{above_count}
use Rattle.modules.specs.Trees.{Tree, Forest, none, more, branch_count}
use Rattle.refusals.specs.declared.Refusal.{Refusal}
use Rattle.std.proofs.lemmas.Bool.{cases_order}
use Rattle.words.specs.Faults.{Begins, NoEntry, EntryFault, WordFault, HeadFault, Fault, Faults}
use Rattle.words.specs.Grammar.{Branch, Branches}
use Rattle.words.specs.Heads.{Head, of_line, of_sum, of_greater, of_root, head_words, due, Entered, HeadLawful, Opens}
use Rattle.words.specs.Words.{word, entry_words, BranchKind, ValueInRange, value_room, root_kind, entry_kind, most_entry}
use Rattle.words.proofs.Heading.{rest_of, entries_unique, headed, opens_more, opens_unique}
use Rattle.words.proofs.OneTree.{alone}

begins_unique : {ws : List ℕ} {k v k' v' : ℕ} {x y : List ℕ} → Begins ws k v x → Begins ws k' v' y → (k ≡ k') × (v ≡ v') × (x ≡ y)
begins_unique {k = k} {v = v} {k' = k'} {v' = v'} p q =
    let e = sym p.words ∙ q.words in
    let same : word k v ≡ word k' v' = ap (λ l. get_or l 0 0) e in
    (omega (arith, same, p.below, q.below), omega (arith, same, p.below, q.below), rest_of e)

never_empty : {ws : List ℕ} {k v : ℕ} {x : List ℕ} → ws ≡ [] → Begins ws k v x → ⊥
never_empty e b = let z = ap length (sym e ∙ b.words) in omega (arith, z)

-- behind m of n entries stands an entry
entry_next : (fs es x rest : List ℕ) → entry_words es ++ x ≡ entry_words fs ++ rest → length fs < length es
    → (v : ℕ) × (after : List ℕ) × (rest ≡ word entry_kind v ∷ after) × (v ≡ get_or es (length fs) 0)
entry_next [] [] x rest e l = absurd (omega arith)
entry_next [] (v ∷ es) x rest e l = (v, entry_words es ++ x, sym e, refl)
entry_next (f ∷ fs) [] x rest e l = absurd (omega arith)
entry_next (f ∷ fs) (v ∷ es) x rest e l = entry_next fs es x rest (rest_of e) (omega arith)

entry_refused : {place : ℕ} {ws : List ℕ} {e : Refusal} {v : ℕ} {x : List ℕ} → NoEntry place ws e → Begins ws entry_kind v x → v ≤ most_entry → ⊥
entry_refused (NoEntry.ends empty _) b few = never_empty empty b
entry_refused (NoEntry.kind k v rest c other _) b few = other (begins_unique c b).0
entry_refused (NoEntry.value v rest c many _) b few = omega (arith, (begins_unique c b).1, many, few)

-- n entries that stand first have no fault among them
entered_sound : (n place : ℕ) (ws es x : List ℕ) (e : Refusal) → Entered n es → ws ≡ entry_words es ++ x → EntryFault n place ws e → ⊥
entered_sound n place ws es x e ok w fault =
    let (m, fs, rest, m<n, front, w', lacks) = fault in
    let next = entry_next fs es x rest (sym w ∙ w') (omega (arith, ok.count, front.count, m<n)) in
    let few : next.0 ≤ most_entry = omega (arith, next.3, ap (λ i. get_or es i 0) front.count, ok.in_range m m<n) in
    let below : next.0 < value_room = omega (arith, few) in
    entry_refused lacks (record { words = next.2; below = below }) few

-- what a head that opens says of the first word
record Told (ws : List ℕ) (h : Head) (rest : List ℕ) : Type 0 where
  pub kind : ℕ
  pub value : ℕ
  pub behind : List ℕ
  pub begins : Begins ws kind value behind
  pub in_range : ValueInRange kind value
  pub entries : kind ≡ root_kind → (es : List ℕ) × Entered (above_count value) es × (behind ≡ entry_words es ++ rest)

told : {depth : ℕ} {ws rest : List ℕ} (h : Head) → Opens depth ws h rest → Told ws h rest
told {rest = rest} (of_line n) o = record {
  kind = 1;
  value = n;
  behind = rest;
  begins = record { words = o.words; below = omega (arith, o.in_range) };
  in_range = inl (refl, o.in_range);
  entries = λ e. absurd (omega (arith, e));
}
told {rest = rest} (of_sum n) o = record {
  kind = 2;
  value = n;
  behind = rest;
  begins = record { words = o.words; below = omega (arith, o.in_range) };
  in_range = inr (inr (inl refl, o.in_range.0, o.in_range.1));
  entries = λ e. absurd (omega (arith, e));
}
told {rest = rest} of_greater o = record {
  kind = 3;
  value = 2;
  behind = rest;
  begins = record { words = o.words; below = omega arith };
  in_range = inr (inl (refl, refl));
  entries = λ e. absurd (omega (arith, e));
}
told {rest = rest} (of_root n es) o = record {
  kind = 4;
  value = n;
  behind = entry_words es ++ rest;
  begins = record { words = o.words; below = omega (arith, o.in_range.1) };
  in_range = inr (inr (inr refl, o.in_range.0, o.in_range.1));
  entries = λ e. (es, o.in_range.2, refl);
}

branch_kind : (k v : ℕ) → ValueInRange k v → BranchKind k
branch_kind k v (inl line) = (omega (arith, line.0), omega (arith, line.0))
branch_kind k v (inr (inl greater)) = (omega (arith, greater.0), omega (arith, greater.0))
branch_kind k v (inr (inr (inl is, some, few))) = (omega (arith, is), omega (arith, is))
branch_kind k v (inr (inr (inr is, some, few))) = (omega (arith, is), omega (arith, is))

word_sound : {k v depth place : ℕ} {e : Refusal} → ValueInRange k v → depth ≤ 6 → WordFault k v depth place e → ⊥
word_sound {k = k} {v = v} r shallow (WordFault.kind other _) = other (branch_kind k v r)
word_sound r shallow (WordFault.value _ other _) = other r
word_sound r shallow (WordFault.deep _ deep _) = omega (arith, shallow, deep)

-- a head that opens has no fault
pub head_sound : {depth place : ℕ} {ws rest : List ℕ} {h : Head} {e : Refusal} → Opens depth ws h rest → HeadFault depth place ws e → ⊥
head_sound {h = h} o (HeadFault.ends empty _) = never_empty empty (told h o).begins
head_sound {h = h} o (HeadFault.word k v rest b fault) =
    let t = told h o in
    let same = begins_unique t.begins b in
    word_sound (subst (λ x. ValueInRange x v) same.0 (subst (λ x. ValueInRange t.kind x) same.1 t.in_range)) o.shallow fault
head_sound {h = h} o (HeadFault.entries v rest b r s fault) =
    let t = told h o in
    let same = begins_unique t.begins b in
    let found = t.entries same.0 in
    entered_sound _ _ _ _ _ _ (subst (λ x. Entered (above_count x) found.0) same.1 found.1) (sym same.2 ∙ found.2) fault

mutual
  -- no fault in words that begin with a tree
  pub fault_sound : {depth place : ℕ} {ws : List ℕ} {e : Refusal} → Fault depth place ws e → (t : Tree) (bs cs : List ℕ) → ws ≡ bs ++ cs → Branch t depth bs → ⊥
  fault_sound {depth = depth} {ws = ws} (Fault.head fault) t bs cs w b = head_sound (opens_more ws cs (headed t depth bs b).opens w) fault
  fault_sound {depth = depth} {ws = ws} (Fault.table h rest o other _) t bs cs w b =
      let own = headed t depth bs b in
      other (subst HeadLawful (opens_unique (opens_more ws cs own.opens w) o).0 own.lawful)
  fault_sound {depth = depth} {ws = ws} (Fault.under h rest o law faults) t bs cs w b =
      let own = headed t depth bs b in
      let same = opens_unique (opens_more ws cs own.opens w) o in
      faults_sound faults own.forest own.rest cs (own.count ∙ ap due same.0) (sym same.1) own.branches

  faults_sound : {n depth place : ℕ} {ws : List ℕ} {e : Refusal} → Faults n depth place ws e → (f : Forest) (bs cs : List ℕ) → branch_count f ≡ n → ws ≡ bs ++ cs → Branches f depth bs → ⊥
  faults_sound (Faults.here some fault) none bs cs n w b = omega (arith, some, n)
  faults_sound (Faults.here some fault) (more t f) bs cs n w b = fault_sound fault t b.0 (b.1 ++ cs) (w ∙ ap (λ l. l ++ cs) b.2 ∙ append_assoc b.0 b.1 cs) b.3
  faults_sound (Faults.behind m u ds rest k w' p faults) none bs cs n w b = omega (arith, k, n)
  faults_sound {depth = depth} (Faults.behind m u ds rest k w' p faults) (more t f) bs cs n w b =
      let split = w ∙ ap (λ l. l ++ cs) b.2 ∙ append_assoc b.0 b.1 cs in
      let one = alone u t depth depth ds b.0 rest (b.1 ++ cs) p b.3 (sym w' ∙ split) in
      faults_sound faults f b.1 cs (omega (arith, k, n)) one.2 b.4

entry_fault_unique : (n place : ℕ) (ws : List ℕ) (e d : Refusal) → EntryFault n place ws e → EntryFault n place ws d → e ≡ d
entry_fault_unique n place ws e d p q =
    let (m, es, x, m<n, front, w, lacks) = p in
    let (l, fs, y, l<n, ahead, v, wants) = q in
    ⊎_elim
    (λ same.
    let both = entries_unique es fs x y (front.count ∙ same ∙ sym ahead.count) (sym w ∙ v) in
    no_entry_unique lacks (subst (λ k. NoEntry (place + k) x d) (sym same) (subst (λ z. NoEntry (place + l) z d) (sym both.1) wants)))
    (⊎_elim
    (λ less. absurd (entered_sound l place ws fs y e ahead v (m, es, x, less, front, w, lacks)))
    (λ less. absurd (entered_sound m place ws es x d front w (l, fs, y, less, ahead, v, wants))))
    (cases_order m l)
  where
    no_entry_unique : {p : ℕ} {z : List ℕ} {e d : Refusal} → NoEntry p z e → NoEntry p z d → e ≡ d
    no_entry_unique (NoEntry.ends a b) (NoEntry.ends a' b') = b ∙ sym b'
    no_entry_unique (NoEntry.ends a b) (NoEntry.kind k v rest c other b') = absurd (never_empty a c)
    no_entry_unique (NoEntry.ends a b) (NoEntry.value v rest c many b') = absurd (never_empty a c)
    no_entry_unique (NoEntry.kind k v rest c other b) (NoEntry.ends a b') = absurd (never_empty a c)
    no_entry_unique (NoEntry.kind k v rest c other b) (NoEntry.kind k' v' rest' c' other' b') = b ∙ sym b'
    no_entry_unique (NoEntry.kind k v rest c other b) (NoEntry.value v' rest' c' many b') = absurd (other (begins_unique c c').0)
    no_entry_unique (NoEntry.value v rest c many b) (NoEntry.ends a b') = absurd (never_empty a c)
    no_entry_unique (NoEntry.value v rest c many b) (NoEntry.kind k' v' rest' c' other b') = absurd (other (begins_unique c' c).0)
    no_entry_unique (NoEntry.value v rest c many b) (NoEntry.value v' rest' c' many' b') = b ∙ sym b'

word_fault_unique : {k v depth place : ℕ} {e d : Refusal} → WordFault k v depth place e → WordFault k v depth place d → e ≡ d
word_fault_unique (WordFault.kind a b) (WordFault.kind a' b') = b ∙ sym b'
word_fault_unique (WordFault.kind a b) (WordFault.value c a' b') = absurd (a c)
word_fault_unique {k = k} {v = v} (WordFault.kind a b) (WordFault.deep r a' b') = absurd (a (branch_kind k v r))
word_fault_unique (WordFault.value c a b) (WordFault.kind a' b') = absurd (a' c)
word_fault_unique (WordFault.value c a b) (WordFault.value c' a' b') = b ∙ sym b'
word_fault_unique (WordFault.value c a b) (WordFault.deep r a' b') = absurd (a r)
word_fault_unique {k = k} {v = v} (WordFault.deep r a b) (WordFault.kind a' b') = absurd (a' (branch_kind k v r))
word_fault_unique (WordFault.deep r a b) (WordFault.value c a' b') = absurd (a' r)
word_fault_unique (WordFault.deep r a b) (WordFault.deep r' a' b') = b ∙ sym b'

-- a word's fault is that of every reading of the word
word_fault_at : {ws : List ℕ} {k v k' v' depth place : ℕ} {x y : List ℕ} {e : Refusal} → Begins ws k v x → Begins ws k' v' y → WordFault k v depth place e → WordFault k' v' depth place e
word_fault_at {v = v} {k' = k'} {depth = depth} {place = place} {e = e} b c fault =
    let same = begins_unique b c in
    subst (λ z. WordFault k' z depth place e) same.1 (subst (λ z. WordFault z v depth place e) same.0 fault)

head_fault_unique : {depth place : ℕ} {ws : List ℕ} {e d : Refusal} → HeadFault depth place ws e → HeadFault depth place ws d → e ≡ d
head_fault_unique (HeadFault.ends a b) (HeadFault.ends a' b') = b ∙ sym b'
head_fault_unique (HeadFault.ends a b) (HeadFault.word k v rest c f) = absurd (never_empty a c)
head_fault_unique (HeadFault.ends a b) (HeadFault.entries v rest c r s f) = absurd (never_empty a c)
head_fault_unique (HeadFault.word k v rest c f) (HeadFault.ends a b) = absurd (never_empty a c)
head_fault_unique (HeadFault.word k v rest c f) (HeadFault.word k' v' rest' c' f') = word_fault_unique f (word_fault_at c' c f')
head_fault_unique (HeadFault.word k v rest c f) (HeadFault.entries v' rest' c' r s f') = absurd (word_sound r s (word_fault_at c c' f))
head_fault_unique (HeadFault.entries v rest c r s f) (HeadFault.ends a b) = absurd (never_empty a c)
head_fault_unique (HeadFault.entries v rest c r s f) (HeadFault.word k' v' rest' c' f') = absurd (word_sound r s (word_fault_at c' c f'))
head_fault_unique {place = place} {d = d} (HeadFault.entries v rest c r s f) (HeadFault.entries v' rest' c' r' s' f') =
    let same = begins_unique c' c in
    entry_fault_unique _ _ _ _ _ f
    (subst (λ z. EntryFault (above_count v) (suc place) z d) same.2 (subst (λ z. EntryFault (above_count z) (suc place) rest' d) same.1 f'))

mutual
  -- words have one fault at most
  pub fault_unique : {depth place : ℕ} {ws : List ℕ} {e d : Refusal} → Fault depth place ws e → Fault depth place ws d → e ≡ d
  fault_unique (Fault.head f) (Fault.head g) = head_fault_unique f g
  fault_unique (Fault.head f) (Fault.table h rest o a b) = absurd (head_sound o f)
  fault_unique (Fault.head f) (Fault.under h rest o a g) = absurd (head_sound o f)
  fault_unique (Fault.table h rest o a b) (Fault.head g) = absurd (head_sound o g)
  fault_unique (Fault.table h rest o a b) (Fault.table h' rest' o' a' b') = b ∙ sym b'
  fault_unique (Fault.table h rest o a b) (Fault.under h' rest' o' a' g) = absurd (a (subst HeadLawful (opens_unique o' o).0 a'))
  fault_unique (Fault.under h rest o a f) (Fault.head g) = absurd (head_sound o g)
  fault_unique (Fault.under h rest o a f) (Fault.table h' rest' o' a' b') = absurd (a' (subst HeadLawful (opens_unique o o').0 a))
  fault_unique {depth = depth} {place = place} {d = d} (Fault.under h rest o a f) (Fault.under h' rest' o' a' g) =
      let same = opens_unique o' o in
      faults_unique f
      (subst (λ z. Faults (due h) (suc depth) (place + length (head_words h)) z d) same.1 (subst (λ z. Faults (due z) (suc depth) (place + length (head_words z)) rest' d) same.0 g))

  faults_unique : {n depth place : ℕ} {ws : List ℕ} {e d : Refusal} → Faults n depth place ws e → Faults n depth place ws d → e ≡ d
  faults_unique (Faults.here some f) (Faults.here some' g) = fault_unique f g
  faults_unique (Faults.here some f) (Faults.behind m t bs cs n w b g) = absurd (fault_sound f t bs cs w b)
  faults_unique (Faults.behind m t bs cs n w b f) (Faults.here some g) = absurd (fault_sound g t bs cs w b)
  faults_unique {depth = depth} {place = place} {d = d} (Faults.behind m t bs cs n w b f) (Faults.behind m' t' bs' cs' n' w' b' g) =
      let one = alone t' t depth depth bs' bs cs' cs b' b (sym w' ∙ w) in
      let left : m' ≡ m = omega (arith, n, n') in
      faults_unique f
      (subst (λ z. Faults m depth (place + length bs) z d) one.2
      (subst (λ z. Faults m depth (place + length z) cs' d) one.1 (subst (λ z. Faults z depth (place + length bs') cs' d) left g)))
