-- The default and the trie of a table made those of its list again, step by step. Assumes nothing.
use Rattle.std.proofs.Common.{◌≡◌, ℕ, zero, suc, ◌+◌, ◌-◌, ◌*◌, ◌/◌, ◌%◌, ◌^◌, ◌<◌, ◌≤◌, Bool, true, ◌≢◌, List, length, get_or, drop, set, sym, refl, ap, ◌∙◌, mod-eq_of_lt, zero-mul, arith}
use Rattle.std.proofs.lemmas.List.{length-set, get_or-set_same, get_or-set_other, drop-set-lt}
use Rattle.std.proofs.lemmas.Bool.Decides.{nat_tests}
use Rattle.prefix.specs.Words.{width}
use Rattle.prefix.specs.Routes.{Route, route_of, first, good, good_prefix, held}
use Rattle.prefix.specs.Map.{Hops, hops}
use Rattle.prefix.proofs.Good.{fine, in_good}
use Rattle.prefix.proofs.Edits.{held_in}
use Rattle.trie.specs.Shape.{local, Deeper, TrieOf}
use Rattle.trie.specs.Places.{Apart}
use Rattle.trie.proofs.Changes.{change}
use Rattle.grow.specs.Ways.{WayMade, WayFound}
use Rattle.grow.proofs.Renewals.{node_fits, put_done, words_renewed}
use Rattle.prune.specs.Free.{WithWay}
use Rattle.table.specs.Right.{Mapped, Right, Sound, room, row_length, default_at, listed, default, nodes, trie}
use Rattle.table.specs.Follows.{Front, Beside, Renewed, DefaultSet}
use Rattle.table.proofs.Lent.{front_room, front_listed, beside_trans}

-- a table of which only the default and the trie are others
pub mapped_anew : (words : ℕ) (old new : List ℕ) (m m' : Hops) → Mapped words old m → Front words old new → default words new ≡ m' 0 0 → TrieOf (width words) m' (trie words new) (nodes words new) → Mapped words new m'
mapped_anew words old new m m' r f d t =
    let space = front_room words old new f in
    let list = front_listed words old new f in
    record {
      long = f.long ∙ r.long ∙ ap (row_length words) (sym space);
      small = rw space r.small;
      fewer = let c = f.same 0 (omega arith) in omega (arith, r.fewer);
      proper = rw list r.proper;
      order = rw list r.order;
      default_is = d;
      trie_is = t;
    }

-- it is right if the map is that of its list
pub right_anew : (words : ℕ) (old new : List ℕ) → Front words old new → Mapped words new (hops (width words) (listed words old)) → Right words new
right_anew words old new f r = rw (front_listed words old new f) r

-- the default of a map does not change with a longer prefix
same_default : (m m' : Hops) (l q : ℕ) → 0 < l → Apart m m' l q → m' 0 0 ≡ m 0 0
same_default m m' l q some apart = apart 0 0 (λ e f. omega arith)

-- default and row kept by steps beside them
default_kept : (words : ℕ) (old new : List ℕ) → Beside words old new → default words new ≡ default words old
default_kept words old new b = rw (front_room words old new b.front) b.default_same

module _ (words : ℕ) (old : List ℕ) (m : Hops) (r : Mapped words old m) (l q : ℕ) (some : 0 < l) (apart : Apart m (hops (width words) (listed words old)) l q) where
  -- the way was made, and the words were made new
  pub entered : (mid new : List ℕ) (node : ℕ) (done : Bool) → hops (width words) (listed words old) l q ≢ 0 → Beside words old mid → WayMade (width words) m l q (trie words mid) (nodes words mid) node
      → Renewed words mid new l q node done → (done ≡ true) × Right words new
  entered mid new node done there b w n =
      let yes : done ≡ true = n.fits ∙ node_fits w in
      let list = front_listed words old mid b.front in
      let says = rw list at (n.says (rw list r.order) (rw list r.proper)) in
      let t = put_done (hops (width words) (listed words old)) w apart there (omega arith) n.cells says (n.written yes) in
      let all = beside_trans words old mid new b n.beside in
      let d = default_kept words old new all ∙ r.default_is ∙ sym (same_default m _ l q some apart) in
      (yes, right_anew words old new all.front (mapped_anew words old new m (hops (width words) (listed words old)) r all.front d (rw n.count t)))

  -- the words were made new, and the way given back
  pub left : (mid new : List ℕ) (node : ℕ) → m l q ≢ 0 → WayFound (width words) m l q (trie words old) (nodes words old) node → Renewed words old mid l q node true → Beside words mid new
      → (x : ℕ) → first (width words) l x ≡ q
      → (WithWay (width words) l x (hops (width words) (listed words old)) (trie words mid) (nodes words mid) → TrieOf (width words) (hops (width words) (listed words old)) (trie words new) (nodes words new))
      → Right words new
  left mid new node there w n b x is back =
      let t = words_renewed (hops (width words) (listed words old)) w apart there (omega arith) n.cells (n.says r.order r.proper) (n.written refl) in
      let way : WithWay (width words) l x (hops (width words) (listed words old)) (trie words mid) (nodes words mid) = rw (is, n.count) t in
      let all = beside_trans words old mid new n.beside b in
      let d = default_kept words old new all ∙ r.default_is ∙ sym (same_default m _ l q some apart) in
      right_anew words old new all.front (mapped_anew words old new m (hops (width words) (listed words old)) r all.front d (back way))

locals : (m m' : Hops) (d c : ℕ) → ((l q : ℕ) → 0 < l → m l q ≡ m' l q) → local m d c ≡ local m' d c
unfolding local
locals m m' d c same =
    let a = same (4 * d + 4) c (omega arith) in
    let b = same (4 * d + 3) (c / 2) (omega arith) in
    let e = same (4 * d + 2) (c / 4) (omega arith) in
    let f = same (4 * d + 1) (c / 8) (omega arith) in
    rw (a, b, e, f)

-- a trie is one of any map with the same longer prefixes
same_longer : (w : ℕ) (m m' : Hops) (t : List ℕ) (n : ℕ) → ((l q : ℕ) → 0 < l → m' l q ≡ m l q) → TrieOf w m t n → TrieOf w m' t n
same_longer w m m' t n same h =
    record {
      depth = h.depth;
      path = h.path;
      fits = h.fits;
      shape =
          change h.shape (λ i k a b. refl) (λ i k a b. h.shape.says i k a b ∙ sym (local_same (h.depth i) (16 * h.path i + k)))
          (λ i k a b z p. deeper m' m (λ l q s. sym (same l q s)) _ _ p) (λ i p a y. deeper m m' same _ _ y);
    }
  where
    local_same : (d c : ℕ) → local m' d c ≡ local m d c
    local_same d c = locals m' m d c same

    deeper : (a b : Hops) → ((l q : ℕ) → 0 < l → b l q ≡ a l q) → (d c : ℕ) → Deeper a d c → Deeper b d c
    deeper a b e d c y = record { len = y.len; bits = y.bits; long = y.long; there = λ z. y.there (sym (e y.len y.bits (omega (arith, y.long))) ∙ z); begins = y.begins }

pub default_front : (words : ℕ) (old new : List ℕ) (len bits : ℕ) → DefaultSet words old new len bits → Front words old new
default_front words old new len bits s =
    record {
      long = ap length s.row ∙ length-set _ _ _;
      same = λ i h. ap (λ (xs : List ℕ). get_or xs i 0) s.row ∙ get_or-set_other old (default_at words (room old)) i (default words new) 0 (omega arith);
    }

-- a number written where the default stands leaves the nodes
default_beside : (words : ℕ) (old new : List ℕ) (v : ℕ) → new ≡ set old (default_at words (room old)) v → room new ≡ room old → (nodes words new ≡ nodes words old) × (trie words new ≡ trie words old)
default_beside words old new v is same =
    rw same (
      ap (λ (xs : List ℕ). get_or xs (default_at words (room old) + 1) 0) is ∙ get_or-set_other old (default_at words (room old)) (default_at words (room old) + 1) v 0 (omega arith),
      ap (drop (default_at words (room old) + 2)) is ∙ drop-set-lt (default_at words (room old) + 2) old (default_at words (room old)) v (omega arith),
    )

-- the prefix of no bits has none
no_bits : (w bits : ℕ) → good_prefix w 0 bits ≡ true → bits ≡ 0
unfolding good_prefix
no_bits w bits g =
    let e : w - 0 ≡ w = omega arith in
    let low : bits < 2 ^ w = grind (arith, nat_tests) in
    let rest : bits % 2 ^ (w - 0) ≡ 0 = grind (arith, nat_tests) in
    let none : bits % 2 ^ w ≡ 0 = rw e at rest in
    sym (mod-eq_of_lt low) ∙ none

-- the default follows the list
pub defaulted : (words : ℕ) (old new : List ℕ) (m : Hops) (bits : ℕ) → Mapped words old m → DefaultSet words old new 0 bits → good_prefix (width words) 0 bits ≡ true
    → Apart m (hops (width words) (listed words old)) 0 (first (width words) 0 bits) → Right words new
unfolding hops
defaulted words old new m bits r s good apart =
    let f = default_front words old new 0 bits s in
    let parts = default_beside words old new (default words new) s.row (front_room words old new f) in
    let t = same_longer (width words) m (hops (width words) (listed words old)) (trie words old) (nodes words old) (λ l q some. apart l q (λ e g. omega arith)) r.trie_is in
    let zero_bits : 0 * 2 ^ (width words - 0) ≡ bits = zero-mul _ ∙ sym (no_bits (width words) bits good) in
    let d : default words new ≡ hops (width words) (listed words old) 0 0 = s.value r.order r.proper ∙ ap (λ (b : ℕ). held 0 b (listed words old)) (sym zero_bits) in
    right_anew words old new f (mapped_anew words old new m (hops (width words) (listed words old)) r f d (rw (parts.0, parts.1) t))

-- a good prefix is no longer than a key
pub good_short : (w len bits : ℕ) → good_prefix w len bits ≡ true → len ≤ w
unfolding good_prefix
good_short w len bits g = grind (arith, nat_tests)

pub defaulted_at : (words : ℕ) (old new : List ℕ) (m : Hops) (len bits : ℕ) → len ≡ 0 → Mapped words old m → DefaultSet words old new len bits → good_prefix (width words) len bits ≡ true
    → Apart m (hops (width words) (listed words old)) len (first (width words) len bits) → Right words new
defaulted_at words old new m len bits e r s g a = defaulted words old new m bits r (rw e at s) (rw e at g) (rw e at a)

-- what a good list holds fits a cell
pub held_low : (w : ℕ) (rs : List Route) (len bits : ℕ) → good w rs ≡ true → held len bits rs ≤ 65536
held_low w rs len bits g = go (held len bits rs) refl
  where
    go : (h : ℕ) → held len bits rs ≡ h → h ≤ 65536
    go zero e = omega arith
    go (suc h) e = omega (arith, (fine w (route_of bits len h) (in_good w rs (route_of bits len h) g ((held_in w (route_of bits len h) rs g).0 e))).hop_fits)

-- a number written where the default stands is the default
pub default_written : (words at v : ℕ) (old : List ℕ) → at ≡ default_at words (room old) → at + 2 ≤ length old
    → (default words (set old at v) ≡ v) × (set old at v ≡ set old (default_at words (room old)) (default words (set old at v)))
default_written words at v old is inside =
    let space : room (set old at v) ≡ room old = get_or-set_other old at 1 v 0 (omega arith) in
    let value : default words (set old at v) ≡ v = rw (space, ← is) (get_or-set_same old at v 0 (omega arith)) in
    (value, rw (value, is))

-- a list that no step touched is still sound
pub sound_still : (words : ℕ) (old new : List ℕ) (m : Hops) → Mapped words old m → Front words old new → Sound words new
sound_still words old new m r f =
    let space = front_room words old new f in
    let list = front_listed words old new f in
    record {
      long = f.long ∙ r.long ∙ ap (row_length words) (sym space);
      small = rw space r.small;
      fewer = let c = f.same 0 (omega arith) in omega (arith, r.fewer);
      proper = rw list r.proper;
      order = rw list r.order;
    }
