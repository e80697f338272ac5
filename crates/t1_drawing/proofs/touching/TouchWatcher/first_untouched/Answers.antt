use Rattle.std.proofs.Common.{◌≡◌, ◌+◌, ℕ, ap, ◌∙◌, refl, option_map}
use Rattle.std.specs.List.{count_by}
use Rattle.t1_drawing.specs.declared.direction.Direction.TheVariants.{Across, Upright}
use Rattle.t1_drawing.specs.Touching.{count_in, first_in, stems_of_glyph, untouched_of}
use Rattle.t1_drawing.specs.Private.Watching.{is_left}
use Rattle.t1_drawing.proofs.Touches.{counted_watched, found_watched}
use Rattle.t1_drawing.proofs.touching.TouchWatcher.first_untouched.Goals as goal

pub returns : goal.returns
returns c = λ before st.
    let across : c.count_untouched.result ≡ count_in Across before =
    c.count_untouched.ensures.value ∙ ap (count_by is_left) (c.as_slice.ensures.value ∙ st.across) ∙ counted_watched Across (stems_of_glyph Across before) in
    let upright : c.count_untouched-2.result ≡ count_in Upright before =
    c.count_untouched-2.ensures.value ∙ ap (count_by is_left) (c.as_slice-2.ensures.value ∙ st.upright) ∙ counted_watched Upright (stems_of_glyph Upright before) in
    let all : ℕ = count_in Across before + count_in Upright before in
    let count : c.together-count.result ≡ all = c.together-count.ensures ∙ rw (across, upright) refl in
    let first : c.first_in.result ≡ option_map (untouched_of Across all) (first_in Across before) =
    c.first_in.ensures ∙ rw (count, c.as_slice-3.ensures.value, st.across) (found_watched Across all (stems_of_glyph Across before)) in
    let second : c.first_in-2.result ≡ option_map (untouched_of Upright all) (first_in Upright before) =
    c.first_in-2.ensures ∙ rw (count, c.as_slice-4.ensures.value, st.upright) (found_watched Upright all (stems_of_glyph Upright before)) in
    c.or.ensures ∙ rw (first, second) refl
