-- What several groups and paths start with: SVG 1.1.
use Rattle.std.specs.Prelude.{ℕ, List, ◌++◌, codes}
use Rattle.t1_reason_texts.specs.Decimals.{exact_text}
use Rattle.t1_reason_texts.specs.declared.decimals.Exact.{Exact}

unfoldable pub marks_start : List ℕ → Exact → List ℕ
marks_start id width =
    codes "<g id=\"" ++ (id ++ (codes "\" stroke=\"red\" stroke-width=\"" ++ (exact_text width ++ codes "\">\n")))

unfoldable pub numbers_start : List ℕ → Exact → List ℕ
numbers_start id height =
    codes "<g id=\"" ++ (id ++ (codes "\" fill=\"red\" font-family=\"monospace\" font-size=\"" ++ (exact_text height ++ codes "\">\n")))

unfoldable pub path_start : List ℕ → List ℕ → Exact → List ℕ
path_start id colour width =
    codes "<path id=\"" ++ (id ++ (codes "\" stroke=\"" ++ (colour ++ (codes "\" stroke-width=\"" ++ (exact_text width
    ++ codes "\" d=\"\n")))))
