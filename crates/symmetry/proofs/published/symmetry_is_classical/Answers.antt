use Rattle.std.proofs.Common.{refl, ap, ◌∙◌}
use Rattle.tables.specs.Agreement.{bit}
use Rattle.symmetry.proofs.Exchanges.{swap_here, swap_there, swap_other, exchanged_lt, bit_exchanged, exchanged_back}
use Rattle.symmetry.proofs.Symmetries.{reflexive, symmetric, transitive, of_class, one_class}
use Rattle.symmetry.proofs.Vectors.{to_equivalent, of_equivalent, to_agree, of_agree, to_cofactors, of_cofactors}
use Rattle.symmetry.proofs.published.symmetry_is_classical.Goals as goal

pub returns : goal.returns
returns g c =
    let same = g.R.RowKind.same in
    let weight = g.R.RowKind.weight in
    let laws = g.met.R.RowKind.laws in
    record {
      bits = λ n i k r li lk. record {
        row = exchanged_lt n i k r;
        here = bit_exchanged n i k r i li ∙ ap (λ x. bit x r) (swap_here i k i refl);
        there = bit_exchanged n i k r k lk ∙ ap (λ x. bit x r) (swap_there i k k refl);
        others = λ j lj ni nk. bit_exchanged n i k r j lj ∙ ap (λ x. bit x r) (swap_other i k j ni nk);
        back = exchanged_back n i k li lk r;
      };
      invariant = λ n rows i k li lk. (to_equivalent n i k li lk same rows, of_equivalent n i k li lk same rows);
      cofactors = λ n rows i k li lk ne. (to_cofactors n i k li lk same rows ne, of_cofactors n i k li lk same rows ne weight laws);
      agreement = λ n rows i k li lk whole. (to_agree n i k li lk same rows whole, of_agree n i k li lk same rows);
      equivalence = λ n rows. record {
        reflexive = λ i li. reflexive same weight laws n rows i;
        symmetric = λ i k li lk. symmetric same weight laws n rows i k;
        transitive = transitive same weight laws n rows;
      };
      classes = λ n rows i k c e li lk x y. (of_class same weight laws n rows i k c e li lk x y, one_class same weight laws n rows i k c e li lk x y);
    }
