-- What the code goes by: the results as they are lent; of thresholds and figures, and of estimates.
pub mod Lent
pub mod FigureLaws
pub mod EstimateLaws
