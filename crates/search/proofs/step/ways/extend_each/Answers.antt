use Rattle.std.proofs.Common.{◌≡◌, ℕ, ◌<◌, ◌≤◌, [], ◌∷◌, length, false, get_or, refl, ap, ◌∙◌, lit<, rules, w16, SFits, to_z, of_z}
use Rattle.std.proofs.lemmas.Int.{to_z-of_z}
use Rattle.search.proofs.Parities.{each_of_eight, same_item}
use Rattle.search.proofs.step.ways.extend_each.Goals as goal

pub returns : goal.returns
returns g c =
    let k = g.K.Kind.scale c.args.kind.now in
    let scores = c.args.scores in
    let room : 8 ≤ length scores = search rules in
    let fits : SFits w16 c.args.value = search rules in
    let known : (i : ℕ) → i < 8 → (x : _) → k.extended (get_or scores i x) (to_z w16 (of_z w16 c.args.value)) (get_or c.args.bits i false) ≡ k.extended (get_or scores i k.start) c.args.value (get_or c.args.bits i false) =
    λ i l x. ap (λ v. k.extended (get_or scores i x) v (get_or c.args.bits i false)) (to_z-of_z w16 c.args.value fits)
    ∙ ap (λ y. k.extended y c.args.value (get_or c.args.bits i false)) (same_item scores i i 8 x k.start refl l room) in
    each_of_eight (λ i. get_or (c.extend.result ∷ c.extend-2.result ∷ c.extend-3.result ∷ c.extend-4.result ∷ c.extend-5.result ∷ c.extend-6.result ∷ c.extend-7.result ∷ c.extend-8.result ∷ []) i k.start
    ≡ k.extended (get_or scores i k.start) c.args.value (get_or c.args.bits i false))
    (c.extend.ensures ∙ known 0 (lit< tt) _)
    (c.extend-2.ensures ∙ known 1 (lit< tt) _)
    (c.extend-3.ensures ∙ known 2 (lit< tt) _)
    (c.extend-4.ensures ∙ known 3 (lit< tt) _)
    (c.extend-5.ensures ∙ known 4 (lit< tt) _)
    (c.extend-6.ensures ∙ known 5 (lit< tt) _)
    (c.extend-7.ensures ∙ known 6 (lit< tt) _)
    (c.extend-8.ensures ∙ known 7 (lit< tt) _)
