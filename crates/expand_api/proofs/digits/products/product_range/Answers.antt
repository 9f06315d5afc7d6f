use Rattle.expand_api.proofs.ProductLemmas.{has_product_range}
use Rattle.expand_api.proofs.digits.products.product_range.Goals as goal

pub returns : goal.returns
returns c = has_product_range
